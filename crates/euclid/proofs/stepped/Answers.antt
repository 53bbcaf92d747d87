use Rattle.std.proofs.Common.{◌≡◌, pos, arith, w64, SFits, to_z}
use borrow.Author.Differences.{ints}
use Rattle.std.proofs.lemmas.Int.{to_z-of_z}
use Rattle.euclid.proofs.Signs.{step_fits, mul_fits}
use Rattle.euclid.proofs.stepped.Goals as goal

pub overflow_mul-result : goal.overflow_mul-result
overflow_mul-result c =
    let q : to_z w64 c.args.q ≡ pos c.args.q = omega (arith, ints) in
    let f : SFits w64 c.args.t1 = c.ranges.t1 in
    simp (to_z-of_z, q) (mul_fits c.args.q c.args.t1 c.requires.second)

pub overflow_sub-result : goal.overflow_sub-result
overflow_sub-result c =
    let q : to_z w64 c.args.q ≡ pos c.args.q = omega (arith, ints) in
    let f : SFits w64 c.args.t1 = c.ranges.t1 in
    let f0 : SFits w64 c.args.t0 = c.ranges.t0 in
    let m = mul_fits c.args.q c.args.t1 c.requires.second in
    simp (to_z-of_z, q) (step_fits c.args.q c.args.t0 c.args.t1 c.requires.first c.requires.second)

pub returns : goal.returns
returns c =
    let q : to_z w64 c.args.q ≡ pos c.args.q = omega (arith, ints) in
    let f : SFits w64 c.args.t1 = c.ranges.t1 in
    let f0 : SFits w64 c.args.t0 = c.ranges.t0 in
    let m = mul_fits c.args.q c.args.t1 c.requires.second in
    let s = step_fits c.args.q c.args.t0 c.args.t1 c.requires.first c.requires.second in
    simp (to_z-of_z, q)
