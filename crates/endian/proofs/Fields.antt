-- Fields to bytes and back, for any widths, in either order, by the list of widths; and the fields from a place on.
use Rattle.std.specs.Prelude.{◌≡◌, ◌∷◌, ◌++◌, ◌+◌, ◌≤◌}
use Rattle.laws.specs.Kit.{refl, ap, ◌∙◌, List, [], append_assoc, ℕ, arith, length, take, drop}
use Rattle.laws.specs.Kit.{length-drop, take-append-drop, take_at, drop_at, drop-drop, length-take-le}
use Rattle.endian.specs.declared.Order.{Order}
use Rattle.endian.specs.Number.{bytes_of, Bytes}
use Rattle.endian.specs.Order.{number_by, bytes_by}
use Rattle.endian.specs.Fields.{field_bytes, fields, total, Fit, fields_at}
use Rattle.endian.proofs.Width.{length_bytes, bytes_take, bytes_drop}
use Rattle.endian.proofs.EitherOrder.{length_turned, number_back, bytes_back}

module _ (o : Order) where
  -- fields that fit are read back
  pub fields_back : (ws vs rest : List ℕ) → Fit ws vs → fields o ws (field_bytes o ws vs ++ rest) ≡ vs
  unfolding fields field_bytes
  fields_back [] [] rest h = refl
  fields_back [] (v ∷ vs) rest h = absurd h
  fields_back (w ∷ ws) [] rest h = absurd h
  fields_back (w ∷ ws) (v ∷ vs) rest h =
      let more = field_bytes o ws vs ++ rest in
      let long : length (bytes_by o w v) ≡ w = length_turned o (bytes_of w v) ∙ length_bytes w v in
      rw (
        append_assoc (bytes_by o w v) (field_bytes o ws vs) rest,
        take_at (bytes_by o w v) more w long,
        drop_at (bytes_by o w v) more w long,
        number_back o w v h.0,
        fields_back ws vs rest h.1,
      )

  -- and bytes that were read as fields are written back
  pub bytes_again : (ws l : List ℕ) → Bytes l → total ws ≤ length l → field_bytes o ws (fields o ws l) ++ drop (total ws) l ≡ l
  unfolding fields field_bytes
  bytes_again [] l b h = refl
  bytes_again (w ∷ ws) l b h =
      let long : length (take w l) ≡ w = length-take-le w l (omega arith) in
      let front = rw long at (bytes_back o (take w l) (bytes_take w l b)) in
      let rest = bytes_again ws (drop w l) (bytes_drop w l b) (rw length-drop (omega arith)) in
      let more = field_bytes o ws (fields o ws (drop w l)) in
      rw (front, append_assoc (take w l) more (drop (w + total ws) l), ← drop-drop (total ws) w l, rest) (take-append-drop w l)

  pub fields_at_lem : (ws l : List ℕ) (at : ℕ) → fields o ws (drop at l) ≡ fields_at o ws l at
  unfolding fields
  fields_at_lem [] l at = refl
  fields_at_lem (w ∷ ws) l at =
      ap (λ (m : List ℕ). number_by o w l at ∷ m) (rw (drop-drop w at l) (fields_at_lem ws l (at + w)))
