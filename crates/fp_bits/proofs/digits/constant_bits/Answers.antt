use Rattle.std.proofs.Common.{◌≡◌, suc, ◌+◌, ◌-◌, ◌/◌, ◌<◌, ◌++◌, length, take, sym, ap, ◌∙◌, append_assoc, arith}
use Rattle.std.proofs.Math.ListN.{length-set}
use Rattle.std.proofs.lemmas.List.{take_more_set}
use Rattle.fp_bits.specs.Digits.{constant_bits}
use Rattle.fp_bits.proofs.digits.constant_bits.Goals as goal

pub loop-place-preserved : goal.loop-place-preserved
loop-place-preserved c =
    let l = c.loop-place in
    let room : l.place < length l.list = omega arith in
    let left : c.args.count - l.place ≡ suc (c.args.count - (l.place + 1)) = omega arith in
    record {
      long = length-set l.list l.place _ ∙ l.invariant.long;
      so_far =
          ap (λ t. t ++ constant_bits (c.args.count - (l.place + 1)) (l.rest / 2)) (take_more_set l.list l.place _ room)
          ∙ append_assoc (take l.place l.list) _ _
          ∙ sym (ap (λ k. take l.place l.list ++ constant_bits k l.rest) left)
          ∙ l.invariant.so_far;
    }
