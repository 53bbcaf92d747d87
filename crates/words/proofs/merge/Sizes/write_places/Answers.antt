use Rattle.std.proofs.Common.{ℕ, ap, rules}
use Rattle.words.proofs.Frames.{put_says, put_at}
use Rattle.words.proofs.RowLaid.{places}
use Rattle.words.proofs.merge.Sizes.write_places.Goals as goal

pub returns : goal.returns
returns c = places _ _ _ _ _ _ _ _ _
    (put_at _ _ _ _ _ _ (ap (λ (x : ℕ × ℕ × ℕ). x.0) c.places-a.ensures) (put_says _ _ _ _ _ (search rules) c.put.ensures))
    (put_at _ _ _ _ _ _ (ap (λ (x : ℕ × ℕ × ℕ). x.1) c.places-a.ensures) (put_says _ _ _ _ _ (search rules) c.put-2.ensures))
    (put_at _ _ _ _ _ _ (ap (λ (x : ℕ × ℕ × ℕ). x.2) c.places-a.ensures) (put_says _ _ _ _ _ (search rules) c.put-3.ensures))
