use Rattle.std.proofs.Common.{arith, sym}
use Rattle.state_text.proofs.Taken.{bytes_count, first_is, send_taken}
use Rattle.state_text.proofs.reading.send_in.Goals as goal

pub index-requires : goal.index-requires
index-requires c =
    let count = bytes_count _ _ _ _ c.in_ok-bytes.ensures in
    omega (arith, count, c.in_ok-bytes.bytes.ok.0)

pub returns-in-Some-kept_send : goal.returns-in-Some-kept_send
returns-in-Some-kept_send c = send_taken _ _ _ _ _ _ _ _ _ _ _ c.in-Some.ensures c.if-not-is_decimal.ensures c.if-not-is_decimal-2.ensures c.in_ok-bytes.ensures (first_is _ _ (bytes_count _ _ _ _ c.in_ok-bytes.ensures) (sym c.index.ensures)) c.in-Some-kept_send.ensures
