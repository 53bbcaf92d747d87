use Rattle.std.proofs.Common.{ℕ, ◌*◌, ◌%◌, ◌<◌, sym, ap, ◌∙◌, subst, arith, w64, SFits, rules}
use Rattle.std.proofs.lemmas.Int.{to_z-of_z}
use Rattle.euclid.proofs.Signs.{fine, start, again, ended, residue_below}
use Rattle.euclid.proofs.inverse_of.Goals as goal

pub loop-r1-init : goal.loop-r1-init
loop-r1-init c = start c.args.p c.args.a c.requires.prime.0 c.requires.some c.requires.below

pub stepped-t2-requires : goal.stepped-t2-requires
stepped-t2-requires c =
    let b = fine c.args.p c.args.a c.loop-r1.r0 c.loop-r1.r1 _ _ (omega arith) c.loop-r1-test.true c.loop-r1.invariant in
    record { times = b.times; first = b.first; second = b.second }

pub loop-r1-preserved : goal.loop-r1-preserved
loop-r1-preserved c =
    let fits : SFits w64 c.stepped-t2.result = search rules in
    simp to_z-of_z
    (again c.args.p c.args.a c.loop-r1.r0 c.loop-r1.r1 _ _ c.stepped-t2.result (omega (arith, c.requires.below))
    c.loop-r1-test.true c.stepped-t2.ensures c.loop-r1.invariant)

pub returns : goal.returns
returns c =
    let e = ended c.args.p c.args.a c.loop-r1.r0 c.loop-r1.r1 _ _ c.requires.prime c.loop-r1-test.false c.loop-r1.invariant in
    record {
      below =
          subst (λ (x : ℕ). x < c.args.p) (sym c.residue_of.ensures) (residue_below c.args.p _ (omega (arith, c.requires.prime.0)));
      is = ap (λ (x : ℕ). (c.args.a * x) % c.args.p) c.residue_of.ensures ∙ e;
    }
