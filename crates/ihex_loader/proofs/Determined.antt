-- An accepted image, as relations between lines and as functions of the bytes.
use Rattle.std.proofs.Common.{◌≡◌, ℕ, ◌<◌, None, List, [], length, take, sym, ap, ◌∙◌, subst, arith}
use Rattle.std.proofs.Math.Seq.{take-length}
use Rattle.std.proofs.lemmas.Option.{slice_get_within}
use Rattle.std.specs.List.{list_any}
use Rattle.ihex_loader.specs.Flash.{Image}
use Rattle.ihex_loader.specs.Line.{Line}
use Rattle.ihex_loader.specs.Image.{first_fault, is_end, puts, last_put, used_of, image, hex_fault, lines_of}
use Rattle.ihex_loader.specs.Accepted.{IsImage, IsLast, PutsAt, IsTop}
use Rattle.ihex_loader.specs.Pass.{Gives}
use Rattle.ihex_loader.proofs.LastSaid.{last_unique}
use Rattle.ihex_loader.proofs.Given.{puts_one, byte_is_last, used_is_top, top_unique}
use Rattle.ihex_loader.proofs.Faultless.{sound_from, sound_to, ends_from, ends_to, faultless_from, ended_from, no_fault_to}
use Rattle.ihex_loader.proofs.OnePass.{image_given, gives_image}

pub whole : (lines : List Line) (flash : Image) → first_fault [] lines ≡ None → Gives lines flash.bytes flash.used → IsImage lines flash
whole lines flash none gives =
    let n = length lines in
    let used = used_is_top lines n (omega arith) in
    let all = take-length lines in
    let top : used_of (puts [] (take n lines)) ≡ flash.used = ap (λ l. used_of (puts [] l)) all ∙ sym gives.top in
    record {
      sound = λ i line is. sound_from lines i line (let lt = slice_get_within lines i line is in omega arith) (faultless_from [] lines none i line is);
      ended = ends_from lines n (omega arith) (ap (list_any is_end) all ∙ ended_from [] lines none);
      size = gives.len;
      each = λ a lt. subst (IsLast (PutsAt lines a) n 255) (ap (λ l. last_put 255 a (puts [] l)) all ∙ sym (gives.each a lt)) (byte_is_last lines a n (omega arith));
      below = λ a m b p. subst (λ u. a < u) top (used.below a m b (slice_get_within lines m _ p.line_is) p);
      top = subst (IsTop lines) top used.top;
    }

pub no_other : (lines : List Line) (flash : Image) → IsImage lines flash → (first_fault [] lines ≡ None) × Gives lines flash.bytes flash.used
no_other lines flash i =
    let n = length lines in
    let all = take-length lines in
    let used = used_is_top lines n (omega arith) in (
      no_fault_to [] lines
          (λ m line is. sound_to lines m line (let lt = slice_get_within lines m line is in omega arith) (i.sound m line is))
          (ap (list_any is_end) (sym all) ∙ ends_to lines n (omega arith) i.ended),
      record {
        len = i.size;
        each = λ a lt. last_unique (PutsAt lines a) (puts_one lines a) n 255 _ _ (i.each a lt) (byte_is_last lines a n (omega arith)) ∙ ap (λ l. last_put 255 a (puts [] l)) all;
        top = top_unique lines _ _ i.below (λ a m b p. used.below a m b (slice_get_within lines m _ p.line_is) p) i.top used.top ∙ ap (λ l. used_of (puts [] l)) all;
      },
    )

pub accepted : (bytes : List ℕ) → hex_fault bytes ≡ None → IsImage (lines_of bytes) (image bytes)
unfolding hex_fault
accepted bytes none = whole (lines_of bytes) (image bytes) none (gives_image bytes)

pub determined : (bytes : List ℕ) (flash : Image) → IsImage (lines_of bytes) flash → (hex_fault bytes ≡ None) × (flash ≡ image bytes)
unfolding hex_fault
determined bytes flash i =
    let d = no_other (lines_of bytes) flash i in
    (d.0, image_given bytes flash.bytes flash.used d.1)
