use Rattle.std.proofs.Common.{◌≡◌, ◌-◌, ◌≤◌, false}
use Rattle.sim_io.proofs.Pages.{Stands}
use Rattle.avr_disassembler.specs.Listing.{is_second}
use Rattle.ihex_loader.specs.Flash.{word_at}
use Rattle.commands.specs.Listing.{listing, words_used}
use Rattle.commands.proofs.Lines.{lines_left}
use Rattle.commands.proofs.listing.write_listing.Given as goal

abbrev pub invariant-loop-pc : goal.invariant-loop-pc
invariant-loop-pc g l = record {
  stands : Stands (g.O.Sink.taken l.fn.out) (listing l.flash) (lines_left (word_at l.flash.bytes) (words_used l.flash) l.pc) (g.O.Sink.taken l.out) l.page.bytes;
  count : g.O.Sink.faults l.out ≡ g.O.Sink.faults l.fn.out;
  first : is_second (word_at l.flash.bytes) l.pc ≡ false;
  small : l.pc ≤ 65537;
}

abbrev pub decreases-loop-pc : goal.decreases-loop-pc
decreases-loop-pc g l = l.flash.used - l.pc
