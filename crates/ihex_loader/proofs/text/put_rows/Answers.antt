use Rattle.std.proofs.Common.{◌≡◌, ℕ, suc, ◌+◌, ◌++◌, [], Ok, Err, ap, sym, ◌∙◌, arith, append-nil, append_assoc}
use Rattle.std.specs.Prelude.{Result, OnOk}
use Rattle.ihex_loader.specs.Hex.{count, record_at, record_line, records_to}
use Rattle.ihex_loader.proofs.text.put_rows.Goals as goal

one_more : (n : ℕ) → suc n ≡ n + 1
one_more n = omega arith

pub loop-n-init : goal.loop-n-init
loop-n-init c = sym (append-nil c.args.text.now.items)

pub loop-n-preserved : goal.loop-n-preserved
loop-n-preserved c =
    let n = c.loop-n.n in
    let bytes = c.args.bytes.now in
    c.in_ok-put_row.ensures ∙ ap (λ t. t ++ record_at n bytes) c.loop-n.invariant ∙ append_assoc c.args.text.now.items (records_to n bytes) (record_at n bytes)
    ∙ ap (λ k. c.args.text.now.items ++ records_to k bytes) (one_more n)

on_ok : {T E : Type 0} {P Q : Type 0} (r : Result T E) → (P → Q) → OnOk r P → OnOk r Q
on_ok (Ok x) f h = f h
on_ok (Err e) f h = tt

pub returns : goal.returns
returns c =
    let n : c.loop-n.n ≡ count c.args.bytes.now = omega arith in
    let rows = c.loop-n.invariant ∙ ap (λ k. c.args.text.now.items ++ records_to k c.args.bytes.now) n in
    on_ok c.put_record.result
    (λ e. e ∙ ap (λ t. t ++ record_line 1 0 []) rows ∙ append_assoc c.args.text.now.items (records_to (count c.args.bytes.now) c.args.bytes.now) (record_line 1 0 []))
    c.put_record.ensures
