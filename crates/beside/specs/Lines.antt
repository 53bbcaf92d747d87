-- The text of answers, as the list of its bytes.
use Rattle.std.specs.Prelude.{ℕ, zero, suc, ◌-◌, min, List, [], ◌++◌, length, Some, None, Ok, Err, Option, Result, codes, decimal}
use Rattle.relations.specs.declared.term.Variable.{Variable}
use Rattle.relations.specs.declared.term.Variable.TheVariants.{One, Zero, Input, Witness, Combination}
use Rattle.relations.specs.declared.fault.SystemFault.{SystemFault}
use Rattle.relations.specs.Meaning.{Meaning, ask, used}
use Rattle.allocated.specs.Gates.{bit}
use Rattle.boolean.specs.declared.bits.Boolean.{Boolean}
use Rattle.boolean.specs.declared.bits.Boolean.TheVariants.{Constant, Var}
use Rattle.fp_var.specs.declared.numbers.FpVar.{FpVar}
use Rattle.fp_var.specs.declared.numbers.FpVar.TheVariants.{Constant as constant_number, Var as variable_number}
use Rattle.command.specs.declared.answers.Answer.{Answer}
use Rattle.command.specs.declared.answers.Answer.TheVariants.{Bit, Number}
use Rattle.command.specs.Answers.{answer_at}

-- the name of a variable; a combination goes by the place of its heading
abbrev pub variable_text : Variable → List ℕ
variable_text One = codes "one"
variable_text Zero = codes "zero"
variable_text (Input n) = codes "i" ++ decimal n
variable_text (Witness n) = codes "w" ++ decimal n
variable_text (Combination n) = codes "c" ++ decimal n

-- the number that a system tells of a variable, if it tells one
abbrev pub value_text : Result (Option ℕ) SystemFault → List ℕ
value_text (Ok (Some v)) = codes " " ++ decimal v
value_text (Ok None) = []
value_text (Err e) = []

-- a bit: constant or variable, and its value
abbrev pub bit_text : Meaning → Boolean → List ℕ
bit_text m (Constant b) = codes "bit constant " ++ decimal (bit b)
bit_text m (Var a) = codes "bit " ++ (variable_text a.variable ++ value_text (ask a.variable m).0)

-- a number: constant or variable, and its value
abbrev pub number_text : Meaning → FpVar → List ℕ
number_text m (constant_number c) = codes "number constant " ++ decimal c
number_text m (variable_number x) = codes "number " ++ (variable_text x.variable ++ value_text (ask x.variable m).0)

-- an answer, by its kind
abbrev pub kind_text : Meaning → Answer → List ℕ
kind_text m (Bit b) = bit_text m b
kind_text m (Number x) = number_text m x

-- the line of the answer with the number n
abbrev pub answer_text : Meaning → List Answer → ℕ → List ℕ
answer_text m book n = decimal n ++ (codes " " ++ (kind_text m (answer_at book n) ++ codes "\n"))

-- the lines of the first n answers
abbrev pub answers_text : Meaning → List Answer → ℕ → List ℕ
answers_text m book zero = []
answers_text m book (suc n) = answers_text m book n ++ answer_text m book n

-- how many terms a system has left
abbrev pub left : Meaning → ℕ
left m = m.term_room - used m

-- the lines of the answers, of which a book has at most 4,096, and the last line; it tells a system's terms up to 2,048
abbrev pub rest_text : Meaning → List Answer → ℕ → List ℕ
rest_text m book combinations =
    answers_text m book (min (length book) 4096)
    ++ (codes "combinations " ++ (decimal combinations ++ (codes " terms " ++ (decimal (2048 - min 2048 (left m)) ++ codes "\n"))))
