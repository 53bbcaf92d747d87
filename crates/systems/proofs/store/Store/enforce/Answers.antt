use Rattle.std.proofs.Common.{refl, ap, arith}
use Rattle.systems.specs.Stores.{bare}
use Rattle.systems.specs.Held.{Sized}
use Rattle.systems.proofs.Views.{has_small}
use Rattle.systems.proofs.Calls.{row_full}
use Rattle.systems.proofs.store.Store.enforce.Goals as goal

pub returns-then-self : goal.returns-then-self
returns-then-self c =
    let n = c.in_ok-sizes.sizes in
    record { same = refl; does = ap (λ q. q.0) (row_full (bare c.args.self.now) c.args.a.now c.args.b.now c.args.c.now n.a n.b n.c c.requires c.in_ok-sizes.ensures c.if-self.true).does }

pub add_row-requires-clause-parts : goal.add_row-requires-clause-parts
add_row-requires-clause-parts c =
    let s = bare c.args.self.now in
    let f = c.requires in
    let x : Sized s c.args.a.now c.args.b.now c.args.c.now c.in_ok-sizes.sizes.a c.in_ok-sizes.sizes.b c.in_ok-sizes.sizes.c = c.in_ok-sizes.ensures in
    record { modulus = f.modulus; a_long = x.a_long; b_long = x.b_long; c_long = x.c_long; room = omega (arith, x.room); back_limit = omega (arith, f.back_in, f.term_limit); terms = omega (arith, f.back_in, f.terms_long); a_small = has_small s c.args.a.now f x.a_known; b_small = has_small s c.args.b.now f x.b_known; c_small = has_small s c.args.c.now f x.c_known }
