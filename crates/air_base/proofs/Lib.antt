-- Lists made number by number, and filters of them.
pub mod Each
-- A run through quiet cycles goes on: by no cycle, by one, by many at once; and what runs at its end ran all the time.
pub mod QuietCycles
