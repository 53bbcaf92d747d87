-- Whether two numbers are equal, and what that asks of a system.
use Rattle.std.specs.Prelude.{ℕ, zero, suc, ◌+◌, ◌-◌, ◌*◌, ◌%◌, not, cond, [], ◌∷◌, Some, None, Option, ◌==◌}
use Rattle.relations.specs.declared.term.Variable.{Variable}
use Rattle.relations.specs.declared.term.Side.TheVariants.{Witness as witness}
use Rattle.relations.specs.Script.{Script, answer, allocate, then}
use Rattle.relations.specs.Terms.{less}
use Rattle.allocated.specs.declared.allocated.AllocatedBool.{AllocatedBool}
use Rattle.allocated.specs.declared.allocated.LooseBit.{LooseBit}
use Rattle.allocated.specs.Gates.{bit, loose, of_two, difference_rows, not_allocated}

-- ---- values
-- the number below n whose product with a is 1 modulo p, 0 where there is none
abbrev pub seek : ℕ → ℕ → ℕ → ℕ
seek p a zero = 0
seek p a (suc n) = cond ((a * n) % p == 1) n (seek p a n)

-- the inverse of a modulo a prime p
abbrev pub inverse : ℕ → ℕ → ℕ
inverse p a = seek p a p

-- x less y modulo p
abbrev pub gap : ℕ → ℕ → ℕ → ℕ
gap p x y = (x + (p - y)) % p

-- a function of two values, where both are there
abbrev pub where_both : (ℕ → ℕ → ℕ) → Option ℕ → Option ℕ → Option ℕ
where_both f None y = None
where_both f (Some x) None = None
where_both f (Some x) (Some y) = Some (f x y)

-- 1 where two numbers differ
abbrev pub differing : ℕ → ℕ → ℕ
differing x y = bit (not (x == y))

-- the number that multiplies the difference of two numbers to 1; 1 where they are equal
abbrev pub multiplier : ℕ → ℕ → ℕ → ℕ
multiplier p x y = cond (x == y) 1 (inverse p (gap p x y))

-- ---- scripts
-- a bit that no row forces yet, whose value is 1 where x and y differ
abbrev pub loose_difference : Variable → Variable → Script LooseBit
loose_difference x y = allocate witness (x ∷ y ∷ []) (of_two (where_both differing)) (λ w. answer (loose w))

-- the multiplier of the difference of x and y
abbrev pub new_multiplier : ℕ → Variable → Variable → Script Variable
new_multiplier p x y = allocate witness (x ∷ y ∷ []) (of_two (where_both (multiplier p))) (λ m. answer m)

-- a bit that is 1 where x and y differ: a loose bit w, the multiplier m, and the rows (x - y) * m = w and (x - y) * (1 - w) = 0
abbrev pub differ_script : ℕ → Variable → Variable → Script AllocatedBool
differ_script p x y = then (loose_difference x y) (λ w. then (new_multiplier p x y) (λ m. difference_rows p (less p x y) m w.variable))

-- whether two numbers are equal, and whether they are not: the not of that
abbrev pub is_eq_script : ℕ → Variable → Variable → Script AllocatedBool
is_eq_script p x y = then (differ_script p x y) (not_allocated p)

abbrev pub is_neq_script : ℕ → Variable → Variable → Script AllocatedBool
is_neq_script p x y = then (is_eq_script p x y) (not_allocated p)
