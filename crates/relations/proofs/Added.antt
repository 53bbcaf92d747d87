-- Calls that only add, one after another.
use Rattle.relations.specs.Meaning.{Meaning, Stored, Adds}

-- where nothing is done nothing is lost
pub adds_nothing : {S : Type 0} (meaning : S → Meaning) (stored : S → Stored) (knows : S → Type 0) (s : S) → Adds meaning stored knows s s
adds_nothing meaning stored knows s = record { words = λ l u h. h; knowing = λ h. h }

pub adds_both : {S : Type 0} {meaning : S → Meaning} {stored : S → Stored} {knows : S → Type 0} {s t u : S} → Adds meaning stored knows s t → Adds meaning stored knows t u → Adds meaning stored knows s u
adds_both a b = record { words = λ l w h. b.words l w (a.words l w h); knowing = λ h. b.knowing (a.knowing h) }
