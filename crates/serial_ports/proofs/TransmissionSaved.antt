-- Numbers of what may be absent: a transmission is again that of its numbers.
use Rattle.std.proofs.Common.{◌≡◌, ◌≤◌, ℕ, zero, suc, Bool, true, false, refl, sym, arith, ◌==◌, Option, None, Some, is_some}
use Rattle.std.proofs.lemmas.Bool.{eqb-true}
use Rattle.device_base.specs.Bits.{bit}
use Rattle.serial_ports.specs.declared.transmission.Transmission.{Transmission}
use Rattle.serial_ports.specs.Numbers.{byte_number, end_number, is_end_number, owned, transmission_of}

-- ---- a transmission

pub transmission-again : (o : Option Transmission) → transmission_of (bit (is_some o) 1 == 1) (end_number o) (byte_number o) ≡ o
transmission-again None = refl
transmission-again (Some f) = refl

pub record Runs (r e b : ℕ) : Type 0 where
  pub runs : bit (is_some (transmission_of (r == 1) e b)) 1 ≡ r
  pub ends : end_number (transmission_of (r == 1) e b) ≡ e
  pub byte : byte_number (transmission_of (r == 1) e b) ≡ b

pub runs-again : (t runs ends byte : ℕ) → runs ≤ 1 → is_end_number t (runs == 1) ends ≡ true → byte ≤ owned (runs == 1) 255 → Runs runs ends byte
runs-again t zero ends byte h e b = record { runs = refl; ends = sym (eqb-true ends 0 e); byte = omega arith }
runs-again t (suc zero) ends byte h e b = record { runs = refl; ends = refl; byte = refl }
runs-again t (suc (suc n)) ends byte h e b = absurd (omega arith)

pub owned-most : (there : Bool) (n most : ℕ) → n ≤ owned there most → n ≤ most
owned-most true n most h = h
owned-most false n most h = omega arith
