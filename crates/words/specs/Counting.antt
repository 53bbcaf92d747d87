-- The terms that an iterator over handed terms has left.
use Rattle.relations.specs.Sum.{Pairs, handed, merged}
use Rattle.words.specs.declared.merge.Counting.{Counting}

abbrev pub left : Counting → Pairs
left s = merged s.all.modulus (handed s.all.terms.now) (handed s.rest.now)
