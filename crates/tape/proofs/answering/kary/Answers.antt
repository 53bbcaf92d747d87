use Rattle.std.proofs.Common.{[], ◌∷◌, sym, ap, ◌∙◌}
use Rattle.relations.specs.Script.{run, whole}
use Rattle.gates.specs.declared.wide.Wide.TheVariants.{And as all, Or as some}
use Rattle.gates.specs.Kary.{kary_script, nand_script, enforce_nand_script}
use Rattle.command.specs.declared.answers.Answer.TheVariants.{Bit}
use Rattle.command.specs.declared.commands.Kary.{Kary}
use Rattle.command.specs.Answers.{kary_steps}
use Rattle.tape.proofs.Executes.{answered}
use Rattle.tape.proofs.answering.kary.Goals as goal

pub returns-in-And-clause-does : goal.returns-in-And-clause-does
returns-in-And-clause-does g c =
    let p = g.F.Field.modulus in
    let m = g.S.System.meaning c.args.cs.now in
    ap (λ (k : Kary). whole (run p (kary_steps k p c.args.bits.now)) m) c.in-And.is
    ∙ answered p (kary_script all p c.args.bits.now) (λ b. Bit b ∷ []) _ _ _ _ (ap (λ bs. whole (run p (kary_script all p bs)) m) (sym c.in-Some.ensures) ∙ c.kary_and.ensures.does) c.one_bit.ensures

pub returns-in-Or-clause-does : goal.returns-in-Or-clause-does
returns-in-Or-clause-does g c =
    let p = g.F.Field.modulus in
    let m = g.S.System.meaning c.args.cs.now in
    ap (λ (k : Kary). whole (run p (kary_steps k p c.args.bits.now)) m) c.in-Or.is
    ∙ answered p (kary_script some p c.args.bits.now) (λ b. Bit b ∷ []) _ _ _ _ (ap (λ bs. whole (run p (kary_script some p bs)) m) (sym c.in-Some.ensures) ∙ c.kary_or.ensures.does) c.one_bit-in-Or.ensures

pub returns-in-Nand-clause-does : goal.returns-in-Nand-clause-does
returns-in-Nand-clause-does g c =
    let p = g.F.Field.modulus in
    let m = g.S.System.meaning c.args.cs.now in
    ap (λ (k : Kary). whole (run p (kary_steps k p c.args.bits.now)) m) c.in-Nand.is
    ∙ answered p (nand_script p c.args.bits.now) (λ b. Bit b ∷ []) _ _ _ _ (ap (λ bs. whole (run p (nand_script p bs)) m) (sym c.in-Some.ensures) ∙ c.kary_nand.ensures.does) c.one_bit-in-Nand.ensures

pub returns-in-EnforceNand-clause-does : goal.returns-in-EnforceNand-clause-does
returns-in-EnforceNand-clause-does g c =
    let p = g.F.Field.modulus in
    let m = g.S.System.meaning c.args.cs.now in
    ap (λ (k : Kary). whole (run p (kary_steps k p c.args.bits.now)) m) c.in-EnforceNand.is
    ∙ answered p (enforce_nand_script p c.args.bits.now) (λ u. []) _ _ _ _ (ap (λ bs. whole (run p (enforce_nand_script p bs)) m) (sym c.in-Some.ensures) ∙ c.enforce_kary_nand.ensures.does) c.no_answer.ensures
