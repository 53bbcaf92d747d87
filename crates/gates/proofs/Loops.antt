-- What is left to run of a script, from one turn of a loop to the next.
use Rattle.std.proofs.Common.{◌≡◌, ℕ, ◌+◌, ◌<◌, List, ◌∷◌, ◌++◌, length, get_or, drop, Ok, Err, sym, ap, ◌∙◌}
use Rattle.relations.specs.declared.term.Variable.{Variable}
use Rattle.relations.specs.declared.term.Term.{Term}
use Rattle.relations.specs.declared.fault.GadgetFault.{GadgetFault}
use Rattle.relations.specs.Meaning.{Meaning, new_lc}
use Rattle.relations.specs.Script.{Script, run, next, combine, then}
use Rattle.relations.specs.Terms.{just}
use Rattle.relations.proofs.Then.{then_ok, then_err}
use Rattle.allocated.specs.declared.gate.Gate.{Gate}
use Rattle.allocated.specs.declared.allocated.AllocatedBool.{AllocatedBool}
use Rattle.boolean.specs.declared.bits.Boolean.{Boolean}
use Rattle.boolean.specs.declared.bits.Boolean.TheVariants.{Var}
use Rattle.boolean.specs.Booleans.{gated_script}
use Rattle.gates.specs.Kary.{chain_from, summands}
use Rattle.gates.proofs.Folds.{next_of}

-- a new combination
pub combine_ok : {A : Type 0} (p : ℕ) (ts : List Term) (k : Variable → Script A) (m n : Meaning) (v : Variable) → new_lc p ts m ≡ (Ok v, n) → run p (combine ts k) m ≡ run p (k v) n
combine_ok p ts k m n v e = ap (λ q. next q.0 q.1 (λ v. run p (k v))) e

-- a chain's next member
pub chain_next : (g : Gate) (p : ℕ) (cur x d : Boolean) (bs : List Boolean) (i : ℕ) (m n : Meaning) → i < length bs → run p (gated_script g p cur (get_or bs i d)) m ≡ (Ok x, n)
    → run p (chain_from g p cur (drop i bs)) m ≡ run p (chain_from g p x (drop (i + 1) bs)) n
chain_next g p cur x d bs i m n h e =
    ap (λ l. run p (chain_from g p cur l) m) (next_of bs i d h) ∙ then_ok p (gated_script g p cur (get_or bs i d)) (λ c. chain_from g p c (drop (i + 1) bs)) m n x e

pub chain_stop : (g : Gate) (p : ℕ) (cur d : Boolean) (bs : List Boolean) (i : ℕ) (m n : Meaning) (f : GadgetFault) → i < length bs → run p (gated_script g p cur (get_or bs i d)) m ≡ (Err f, n)
    → run p (chain_from g p cur (drop i bs)) m ≡ (Err f, n)
chain_stop g p cur d bs i m n f h e =
    ap (λ l. run p (chain_from g p cur l) m) (next_of bs i d h) ∙ then_err p (gated_script g p cur (get_or bs i d)) (λ c. chain_from g p c (drop (i + 1) bs)) m n f e

-- a variable among a sum's members has a summand
pub sum_takes : {A : Type 0} (p : ℕ) (k : List Term → Script A) (ts us : List Term) (a : AllocatedBool) (d : Boolean) (bs : List Boolean) (i : ℕ) (x : Variable) (m n : Meaning) → i < length bs → get_or bs i d ≡ Var a
    → new_lc p (just a.variable) m ≡ (Ok x, n) → us ≡ ts ++ just x → run p (then (summands (drop i bs) ts) k) m ≡ run p (then (summands (drop (i + 1) bs) us) k) n
sum_takes p k ts us a d bs i x m n h e new is =
    ap (λ l. run p (then (summands l ts) k) m) (next_of bs i d h ∙ ap (λ x. x ∷ drop (i + 1) bs) e)
    ∙ combine_ok p (just a.variable) (λ x. then (summands (drop (i + 1) bs) (ts ++ just x)) k) m n x new
    ∙ ap (λ us. run p (then (summands (drop (i + 1) bs) us) k) n) (sym is)
