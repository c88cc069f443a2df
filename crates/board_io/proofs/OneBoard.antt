-- The numbers of a board by its devices, and the one board that has them.
use Rattle.std.proofs.Common.{◌≡◌, ℕ, Bool, true, false, ◌&&◌, refl, sym, ◌∙◌, ap, arith, List, ◌++◌, length, take}
use Rattle.std.specs.List.{list_all}
use Rattle.std.proofs.Math.Seq.{take-add}
use Rattle.std.proofs.lemmas.List.{take_all}
use Rattle.std.proofs.lemmas.List.Folds.{list_all-append}
use Rattle.std.proofs.lemmas.Bool.{and_parts, false≢true}
use Rattle.board_io.specs.declared.board.Board.{Board}
use Rattle.board_io.specs.Saved.{IsRestored, fits, numbers_of, ports_fit, timers_fit}
use Rattle.device_base.specs.Numbers.{part}
use Rattle.device_base.proofs.Places.{part-part}
use Rattle.avr_timers.specs.Numbers8 as timer8
use Rattle.avr_timers.specs.Numbers16 as timer16
use Rattle.avr_timers.specs.declared.prescaler.Prescaler.{Prescaler}
use Rattle.avr_timers.specs.declared.prescaler.Prescaler.TheVariants.{Own, Shared}
use Rattle.avr_timers.specs.declared.timer8.Timer8.{Timer8}
use Rattle.avr_timers.specs.declared.timer16.Timer16.{Timer16}
use Rattle.avr_timers.proofs.Saved8 as saved8
use Rattle.avr_timers.proofs.Saved16 as saved16
use Rattle.serial_ports.specs.UsartNumbers as usart
use Rattle.serial_ports.specs.SpiNumbers as spi
use Rattle.serial_ports.specs.RadioNumbers as radio
use Rattle.serial_ports.proofs.UsartSaved.{one-usart}
use Rattle.serial_ports.proofs.SpiSaved.{one-spi}
use Rattle.serial_ports.proofs.RadioSaved.{one-radio}

-- ---- a list of 67 numbers by the devices' parts

joined : (n : List ℕ) → length n ≡ 67 → part 0 6 n ++ part 6 6 n ++ part 12 13 n ++ part 25 13 n ++ part 38 14 n ++ part 52 10 n ++ part 62 5 n ≡ n
joined n len =
    let a = sym (take-add 6 6 n) in
    let b = ap (λ xs. xs ++ part 12 13 n) a ∙ sym (take-add 12 13 n) in
    let c = ap (λ xs. xs ++ part 25 13 n) b ∙ sym (take-add 25 13 n) in
    let d = ap (λ xs. xs ++ part 38 14 n) c ∙ sym (take-add 38 14 n) in
    let e = ap (λ xs. xs ++ part 52 10 n) d ∙ sym (take-add 52 10 n) in
    let f = ap (λ xs. xs ++ part 62 5 n) e ∙ sym (take-add 62 5 n) in
    f ∙ take_all 67 n (omega arith)

-- a list into which seven parts were put, one after another
pub seven_put :
    {X : Type 0} (a b c d e f g n1 n2 n3 n4 n5 n6 n7 : List X)
    → take 6 n1 ≡ a
    → take 12 n2 ≡ take 6 n1 ++ b
    → take 25 n3 ≡ take 12 n2 ++ c
    → take 38 n4 ≡ take 25 n3 ++ d
    → take 52 n5 ≡ take 38 n4 ++ e
    → take 62 n6 ≡ take 52 n5 ++ f
    → take 67 n7 ≡ take 62 n6 ++ g
    → length n7 ≡ 67
    → n7 ≡ a ++ b ++ c ++ d ++ e ++ f ++ g
seven_put a b c d e f g n1 n2 n3 n4 n5 n6 n7 p q r s t u v len =
    let ab = q ∙ ap (λ xs. xs ++ b) p in
    let abc = r ∙ ap (λ xs. xs ++ c) ab in
    let abcd = s ∙ ap (λ xs. xs ++ d) abc in
    let to_e = t ∙ ap (λ xs. xs ++ e) abcd in
    let to_f = u ∙ ap (λ xs. xs ++ f) to_e in
    sym (take_all 67 n7 (omega arith)) ∙ v ∙ ap (λ xs. xs ++ g) to_f

-- the devices of a board have these numbers
pub record Has (n : List ℕ) (b : Board) : Type 0 where
  pub t0 : timer8.numbers_of b.t0 ≡ part 0 6 n
  pub t2 : timer8.numbers_of b.t2 ≡ part 6 6 n
  pub t1 : timer16.numbers_of b.t1 ≡ part 12 13 n
  pub t3 : timer16.numbers_of b.t3 ≡ part 25 13 n
  pub usart : usart.numbers_of b.usart ≡ part 38 14 n
  pub spi : spi.numbers_of b.spi ≡ part 52 10 n
  pub radio : radio.numbers_of b.radio ≡ part 62 5 n

pub numbers-has : (n : List ℕ) (b : Board) → length n ≡ 67 → Has n b → numbers_of b ≡ n
numbers-has n b len h =
    let t0 = h.t0 in
    let t2 = h.t2 in
    let t1 = h.t1 in
    let t3 = h.t3 in
    let usart = h.usart in
    let spi = h.spi in
    let radio = h.radio in
    let parts : numbers_of b ≡ part 0 6 n ++ part 6 6 n ++ part 12 13 n ++ part 25 13 n ++ part 38 14 n ++ part 52 10 n ++ part 62 5 n = cc in
    parts ∙ joined n len

pub has-numbers : (n : List ℕ) (b : Board) → numbers_of b ≡ n → Has n b
has-numbers n b e = record {
  t0 = ap (part 0 6) e;
  t2 = ap (part 6 6) e;
  t1 = ap (part 12 13) e;
  t3 = ap (part 25 13) e;
  usart = ap (part 38 14) e;
  spi = ap (part 52 10) e;
  radio = ap (part 62 5) e;
}

-- ---- each number of each device is within its bound

abbrev pub all : List Bool → Bool
all fits = list_all (λ fit. fit) fits

timers-parts : (n : List ℕ) → all (timers_fit n) ≡ (timer8.are_numbers Own (part 0 6 n) && timer8.are_numbers Shared (part 6 6 n) && timer16.are_numbers (part 12 13 n) && timer16.are_numbers (part 25 13 n))
unfolding timers_fit
timers-parts n =
    let a = timer8.fits Own (part 0 6 n) in
    let b = timer8.fits Shared (part 6 6 n) in
    let c = timer16.fits (part 12 13 n) in
    let d = timer16.fits (part 25 13 n) in
    let ab = list_all-append (λ fit. fit) a b in
    let abc = list_all-append (λ fit. fit) (a ++ b) c ∙ ap (λ x. x && all c) ab in
    list_all-append (λ fit. fit) (a ++ b ++ c) d ∙ ap (λ x. x && all d) abc

ports-parts : (t : ℕ) (n : List ℕ) → all (ports_fit t n) ≡ (usart.are_numbers t (part 0 14 n) && spi.are_numbers t (part 14 10 n) && radio.are_numbers (part 24 5 n))
unfolding ports_fit
ports-parts t n =
    let a = usart.fits t (part 0 14 n) in
    let b = spi.fits t (part 14 10 n) in
    let c = radio.fits (part 24 5 n) in
    list_all-append (λ fit. fit) (a ++ b) c ∙ ap (λ x. x && all c) (list_all-append (λ fit. fit) a b)

-- of all devices, where those of the timers' numbers and those of the ports' are
pub both-parts : (t : ℕ) (n : List ℕ) → all (fits t n) ≡ (all (timers_fit (part 0 38 n)) && all (ports_fit t (part 38 29 n)))
unfolding fits
both-parts t n = list_all-append (λ fit. fit) (timers_fit (part 0 38 n)) (ports_fit t (part 38 29 n))

regroup : (a b c d : Bool) → (a && (b && c && d)) ≡ (a && b && c && d)
regroup true b c d = refl
regroup false b c d = refl

pub fits-parts :
    (t : ℕ) (n : List ℕ)
    → all (fits t n)
    ≡ (timer8.are_numbers Own (part 0 6 n)
    && timer8.are_numbers Shared (part 6 6 n)
    && timer16.are_numbers (part 12 13 n)
    && timer16.are_numbers (part 25 13 n)
    && usart.are_numbers t (part 38 14 n)
    && spi.are_numbers t (part 52 10 n)
    && radio.are_numbers (part 62 5 n))
fits-parts t n =
    let a = part-part n 0 38 0 6 (omega arith) in
    let b = part-part n 0 38 6 6 (omega arith) in
    let c = part-part n 0 38 12 13 (omega arith) in
    let d = part-part n 0 38 25 13 (omega arith) in
    let e = part-part n 38 29 0 14 (omega arith) in
    let f = part-part n 38 29 14 10 (omega arith) in
    let g = part-part n 38 29 24 5 (omega arith) in
    let timers = timers-parts (part 0 38 n) ∙ (λ i. timer8.are_numbers Own (a i) && timer8.are_numbers Shared (b i) && timer16.are_numbers (c i) && timer16.are_numbers (d i)) in
    let ports = ports-parts t (part 38 29 n) ∙ (λ i. usart.are_numbers t (e i) && spi.are_numbers t (f i) && radio.are_numbers (g i)) in
    let four : Bool = timer8.are_numbers Own (part 0 6 n) && timer8.are_numbers Shared (part 6 6 n) && timer16.are_numbers (part 12 13 n) && timer16.are_numbers (part 25 13 n) in
    both-parts t n ∙ (λ i. timers i && ports i) ∙ regroup four (usart.are_numbers t (part 38 14 n)) (spi.are_numbers t (part 52 10 n)) (radio.are_numbers (part 62 5 n))

both : (a b : Bool) → a ≡ true → b ≡ true → (a && b) ≡ true
both true b e f = f
both false b e f = e

-- where one device's are not, so is the whole
left : (a b : Bool) → a ≡ false → (a && b) ≡ false
left true b e = absurd (false≢true (sym e))
left false b e = refl

right : (a b : Bool) → b ≡ false → (a && b) ≡ false
right true b e = e
right false b e = refl

module _ (t : ℕ) (n : List ℕ) where
  pub all_in :
      timer8.are_numbers Own (part 0 6 n) ≡ true
      → timer8.are_numbers Shared (part 6 6 n) ≡ true
      → timer16.are_numbers (part 12 13 n) ≡ true
      → timer16.are_numbers (part 25 13 n) ≡ true
      → usart.are_numbers t (part 38 14 n) ≡ true
      → spi.are_numbers t (part 52 10 n) ≡ true
      → radio.are_numbers (part 62 5 n) ≡ true
      → all (fits t n) ≡ true
  all_in a b c d e f g = fits-parts t n ∙ both _ _ (both _ _ (both _ _ (both _ _ (both _ _ (both _ _ a b) c) d) e) f) g

  pub out_t0 : timer8.are_numbers Own (part 0 6 n) ≡ false → all (fits t n) ≡ false
  out_t0 e = fits-parts t n ∙ left _ _ (left _ _ (left _ _ (left _ _ (left _ _ (left _ _ e)))))

  pub out_t2 : timer8.are_numbers Shared (part 6 6 n) ≡ false → all (fits t n) ≡ false
  out_t2 e = fits-parts t n ∙ left _ _ (left _ _ (left _ _ (left _ _ (left _ _ (right _ _ e)))))

  pub out_t1 : timer16.are_numbers (part 12 13 n) ≡ false → all (fits t n) ≡ false
  out_t1 e = fits-parts t n ∙ left _ _ (left _ _ (left _ _ (left _ _ (right _ _ e))))

  pub out_t3 : timer16.are_numbers (part 25 13 n) ≡ false → all (fits t n) ≡ false
  out_t3 e = fits-parts t n ∙ left _ _ (left _ _ (left _ _ (right _ _ e)))

  pub out_usart : usart.are_numbers t (part 38 14 n) ≡ false → all (fits t n) ≡ false
  out_usart e = fits-parts t n ∙ left _ _ (left _ _ (right _ _ e))

  pub out_spi : spi.are_numbers t (part 52 10 n) ≡ false → all (fits t n) ≡ false
  out_spi e = fits-parts t n ∙ left _ _ (right _ _ e)

  pub out_radio : radio.are_numbers (part 62 5 n) ≡ false → all (fits t n) ≡ false
  out_radio e = fits-parts t n ∙ right _ _ e

-- ---- the one board

pub same-timer8 : (p : Prescaler) (n : List ℕ) (a b : Timer8) → timer8.HasNumbers p n a → timer8.HasNumbers p n b → a ≡ b
same-timer8 p n a b h k = sym (saved8.one-timer p n a h) ∙ saved8.one-timer p n b k

pub same-timer16 : (n : List ℕ) (a b : Timer16) → timer16.are_numbers n ≡ true → timer16.HasNumbers n a → timer16.HasNumbers n b → a ≡ b
same-timer16 n a b fit h k = sym (saved16.one-within n a fit h) ∙ saved16.one-within n b fit k

pub one-board : (byte_time t : ℕ) (n io : List ℕ) (a b : Board) → all (fits t n) ≡ true → IsRestored byte_time n io a → IsRestored byte_time n io b → a ≡ b
one-board byte_time t n io a b fit h k =
    let i = has-numbers n a h.numbers in
    let j = has-numbers n b k.numbers in
    let last = and_parts _ _ (sym (fits-parts t n) ∙ fit) in
    let spis = and_parts _ _ last.0 in
    let usarts = and_parts _ _ spis.0 in
    let thirds = and_parts _ _ usarts.0 in
    let firsts = and_parts _ _ thirds.0 in
    let own : timer8.HasNumbers Own (part 0 6 n) a.t0 = record { prescaler = h.own; select = h.select0; numbers = i.t0 } in
    let own_b : timer8.HasNumbers Own (part 0 6 n) b.t0 = record { prescaler = k.own; select = k.select0; numbers = j.t0 } in
    let shared : timer8.HasNumbers Shared (part 6 6 n) a.t2 = record { prescaler = h.shared; select = h.select2; numbers = i.t2 } in
    let shared_b : timer8.HasNumbers Shared (part 6 6 n) b.t2 = record { prescaler = k.shared; select = k.select2; numbers = j.t2 } in
    let t0 = same-timer8 Own (part 0 6 n) a.t0 b.t0 own own_b in
    let t2 = same-timer8 Shared (part 6 6 n) a.t2 b.t2 shared shared_b in
    let t1 = same-timer16 (part 12 13 n) a.t1 b.t1 firsts.1 (record { select = h.select1; numbers = i.t1 }) (record { select = k.select1; numbers = j.t1 }) in
    let t3 = same-timer16 (part 25 13 n) a.t3 b.t3 thirds.1 (record { select = h.select3; numbers = i.t3 }) (record { select = k.select3; numbers = j.t3 }) in
    let usart = sym (one-usart (part 38 14 n) a.usart i.usart) ∙ one-usart (part 38 14 n) b.usart j.usart in
    let spi = sym (one-spi (part 52 10 n) a.spi i.spi) ∙ one-spi (part 52 10 n) b.spi j.spi in
    let has : radio.HasNumbers byte_time (part 62 5 n) a.radio = record { gap = h.gap; numbers = i.radio } in
    let has_b : radio.HasNumbers byte_time (part 62 5 n) b.radio = record { gap = k.gap; numbers = j.radio } in
    let radio = sym (one-radio byte_time (part 62 5 n) a.radio last.1 has) ∙ one-radio byte_time (part 62 5 n) b.radio last.1 has_b in
    let kept = h.kept ∙ sym k.kept in
    let left : Board = record { kept = a.kept; t0 = a.t0; t1 = a.t1; t2 = a.t2; t3 = a.t3; usart = a.usart; spi = a.spi; radio = a.radio } in
    let right : Board = record { kept = b.kept; t0 = b.t0; t1 = b.t1; t2 = b.t2; t3 = b.t3; usart = b.usart; spi = b.spi; radio = b.radio } in
    let same : left ≡ right = cc in
    same
