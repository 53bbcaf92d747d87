-- What the script of the bound on what bits spell asks for.
use Rattle.std.proofs.Common.{sym, ℕ, zero, suc, ◌<◌, Bool, true, false, List, [], ◌∷◌, ◌++◌, drop, get_or, Some, Option, refl, ap, ◌∙◌}
use Rattle.relations.specs.Script.{answer, then}
use Rattle.allocated.specs.declared.gate.Gate.TheVariants.{Or as or_gate}
use Rattle.boolean.specs.declared.bits.Boolean.{Boolean}
use Rattle.boolean.specs.declared.bits.Boolean.TheVariants.{Constant}
use Rattle.gates.specs.declared.wide.Wide.TheVariants.{And}
use Rattle.gates.specs.Kary.{enforce_nand_script}
use Rattle.gates.specs.Walk.{bit_of, bit_length, place, above_script, closed_script, fall_script, descent, walk_script}
use Rattle.laws.specs.Bill.{Next}
use lib.ListN.{get_or-map}
use Rattle.std.proofs.lemmas.List.{map-append, drop-map}
use Rattle.laws.proofs.Theorem.{each_append}
use Rattle.bit_laws.proofs.Lists.{each_drop, each_at}
use Rattle.bit_laws.specs.Bills.{shadow, shadows, owes, due_then, zero_due, kary_due, enforce_nand_due, above_due, closed_due, fall_due, descent_due, walk_due}
use Rattle.bit_laws.proofs.Owes.{OldBit, old_later, Owes, owes_then, owes_answer, owes_if, owes_as}
use Rattle.bit_laws.proofs.BitBills.{unit, Any, or_same, zero_owes}
use Rattle.bit_laws.proofs.WideBills.{AllOld, all_later, chain_owes, kary_owes, enforce_nand_owes}

module _ (p : ℕ) (two : 2 < p) where
  above_owes : (bs : List Boolean) (n : Next) → AllOld n bs → Owes p n (above_script p bs) unit Any (above_due (shadows bs))
  above_owes bs n h = owes_then zero_due (chain_owes p two or_gate or_same bs (Constant false) n tt h) (λ l x up hx. zero_owes p two l x hx)

  closed_owes : (run : List Boolean) (last : Boolean) (n : Next) → AllOld n run → OldBit n last → Owes p n (closed_script p run last) shadow OldBit (closed_due p (shadows run) (shadow last))
  closed_owes [] last n h hl = owes_answer last shadow OldBit (shadow last) refl hl
  closed_owes (b ∷ run) last n h hl =
      owes_as (closed_due p (shadows (b ∷ run)) (shadow last)) (ap (λ (l : List (Option Bool)). kary_due And p l) (map-append shadow (b ∷ run) (last ∷ []))) (kary_owes p two And ((b ∷ run) ++ (last ∷ [])) n (each_append (OldBit n) (b ∷ run) (last ∷ []) h (hl, tt)))

  fall_owes : (run : List Boolean) (last b : Boolean) (n : Next) → AllOld n run → OldBit n last → OldBit n b → Owes p n (fall_script p run last b) shadow OldBit (fall_due p (shadows run) (shadow last) (shadow b))
  fall_owes run last b n h hl hb =
      owes_then (λ l. due_then (enforce_nand_due p (l ∷ (shadow b ∷ []))) (λ u. owes [] l)) (closed_owes run last n h hl)
      (λ m x up hx. owes_then {s = enforce_nand_script p (x ∷ (b ∷ []))} {k = λ u. answer x} (λ u. owes [] (shadow x)) (enforce_nand_owes p two (x ∷ (b ∷ [])) m (hx, (old_later n m up b hb, tt)))
      (λ j u up₁ hu. owes_answer x shadow OldBit (shadow x) refl (old_later m j up₁ x hx)))

  descent_owes : (e i : ℕ) (bs : List Boolean) (last : Boolean) (run : List Boolean) (n : Next) → AllOld n bs → OldBit n last → AllOld n run → Owes p n (descent p e i bs last run) unit Any (descent_due p e i (shadows bs) (shadow last) (shadows run))
  descent_owes e zero bs last run n h hl hr = owes_answer tt unit Any tt refl tt
  descent_owes e (suc i) bs last run n h hl hr =
      owes_if (bit_of e i)
      (λ q. owes_as (descent_due p e i (shadows bs) (shadow last) (shadows run ++ (get_or (shadows bs) i (Some false) ∷ [])))
      (ap (λ (l : List (Option Bool)). descent_due p e i (shadows bs) (shadow last) l) (map-append shadow run (place bs i ∷ []) ∙ ap (λ (o : Option Bool). shadows run ++ (o ∷ [])) (sym (get_or-map shadow bs i (Constant false)))))
      (descent_owes e i bs last (run ++ (place bs i ∷ [])) n h hl (each_append (OldBit n) run (place bs i ∷ []) hr (each_at (OldBit n) bs i (Constant false) tt h, tt))))
      (λ q. owes_as (due_then (fall_due p (shadows run) (shadow last) (get_or (shadows bs) i (Some false))) (λ l. descent_due p e i (shadows bs) l []))
      (ap (λ (o : Option Bool). due_then (fall_due p (shadows run) (shadow last) o) (λ l. descent_due p e i (shadows bs) l [])) (sym (get_or-map shadow bs i (Constant false))))
      (owes_then (λ l. descent_due p e i (shadows bs) l []) (fall_owes run last (place bs i) n hr hl (each_at (OldBit n) bs i (Constant false) tt h)) (λ m x up hx. descent_owes e i bs x [] m (all_later n m up bs h) hx tt)))

  walk_owes_at : (k e : ℕ) (bs : List Boolean) (n : Next) → AllOld n bs
      → Owes p n (then (above_script p (drop k bs)) (λ u. descent p e k bs (Constant true) [])) unit Any (due_then (above_due (drop k (shadows bs))) (λ u. descent_due p e k (shadows bs) (Some true) []))
  walk_owes_at k e bs n h =
      owes_as (due_then (above_due (drop k (shadows bs))) (λ u. descent_due p e k (shadows bs) (Some true) []))
      (ap (λ (l : List (Option Bool)). due_then (above_due l) (λ u. descent_due p e k (shadows bs) (Some true) [])) (sym (drop-map shadow k bs)))
      (owes_then (λ u. descent_due p e k (shadows bs) (Some true) []) (above_owes (drop k bs) n (each_drop (OldBit n) k bs h)) (λ m u up hu. descent_owes e k bs (Constant true) [] m (all_later n m up bs h) tt tt))

  pub walk_owes : (bs : List Boolean) (e : ℕ) (n : Next) → AllOld n bs → Owes p n (walk_script p bs e) unit Any (walk_due p (shadows bs) e)
  walk_owes bs e n h = walk_owes_at (bit_length e) e bs n h
