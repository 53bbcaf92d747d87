-- New bits with the digits of a number, from one turn of the loop over them to the next.
use Rattle.std.proofs.Common.{◌≡◌, ℕ, suc, ◌+◌, List, [], ◌∷◌, ◌++◌, Ok, Err, sym, ap, ◌∙◌, append_assoc}
use Rattle.relations.specs.declared.term.Variable.{Variable}
use Rattle.relations.specs.declared.term.Side.TheVariants.{Witness}
use Rattle.relations.specs.declared.fault.GadgetFault.{GadgetFault}
use Rattle.relations.specs.Meaning.{Meaning}
use Rattle.relations.specs.Script.{Script, answer, allocate, then, run}
use Rattle.relations.proofs.Then.{then_ok, then_err}
use Rattle.allocated.specs.declared.allocated.AllocatedBool.{AllocatedBool}
use Rattle.allocated.specs.Gates.{booleanity}
use Rattle.boolean.specs.declared.bits.Boolean.{Boolean}
use Rattle.boolean.specs.declared.bits.Boolean.TheVariants.{Var}
use Rattle.fp_bits.specs.Bits.{digit_of, new_digits}
use Rattle.fp_bits.proofs.Steps.{then_answer, changed_twice}

-- one new bit
abbrev pub new_digit : ℕ → Variable → ℕ → Script AllocatedBool
new_digit p a i = allocate Witness (a ∷ []) (digit_of i) (booleanity p)

-- what is left of the bits, after those that are there
abbrev pub rest_of_digits : ℕ → Variable → ℕ → ℕ → List Boolean → Script (List Boolean)
rest_of_digits p a i k there = then (new_digits p a i k) (λ bs. answer (there ++ bs))

pub digits_begin : (p k n : ℕ) (a : Variable) (m : Meaning) → k ≡ n → run p (rest_of_digits p a 0 k []) m ≡ run p (new_digits p a 0 n) m
digits_begin p k n a m e = ap (λ k. run p (rest_of_digits p a 0 k []) m) e ∙ then_answer p (new_digits p a 0 n) m

pub digits_take : (p i j k : ℕ) (a : Variable) (there more : List Boolean) (b : AllocatedBool) (m n : Meaning) → j ≡ suc k → run p (new_digit p a i) m ≡ (Ok b, n) → more ≡ there ++ (Var b ∷ [])
    → run p (rest_of_digits p a i j there) m ≡ run p (rest_of_digits p a (i + 1) k more) n
digits_take p i j k a there more b m n left ran is =
    ap (λ j. run p (rest_of_digits p a i j there) m) left
    ∙ then_ok p (new_digit p a i) (λ b. then (then (new_digits p a (i + 1) k) (λ bs. answer (Var b ∷ bs))) (λ bs. answer (there ++ bs))) m n b ran
    ∙ changed_twice p (new_digits p a (i + 1) k) (λ bs. Var b ∷ bs) (λ bs. there ++ bs) n
    ∙ (λ s. run p (then (new_digits p a (i + 1) k) (λ bs. answer (sym (append_assoc there (Var b ∷ []) bs) s))) n)
    ∙ ap (λ l. run p (rest_of_digits p a (i + 1) k l) n) (sym is)

pub digits_stop : (p i j k : ℕ) (a : Variable) (there : List Boolean) (f : GadgetFault) (m n : Meaning) → j ≡ suc k → run p (new_digit p a i) m ≡ (Err f, n)
    → run p (rest_of_digits p a i j there) m ≡ (Err f, n)
digits_stop p i j k a there f m n left ran =
    ap (λ j. run p (rest_of_digits p a i j there) m) left
    ∙ then_err p (new_digit p a i) (λ b. then (then (new_digits p a (i + 1) k) (λ bs. answer (Var b ∷ bs))) (λ bs. answer (there ++ bs))) m n f ran
