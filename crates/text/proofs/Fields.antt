-- One number more behind those of a row that are put: the loop of `put_fields` goes through the row's numbers by taking one more of them.
use Rattle.std.specs.Prelude.{◌≡◌, ◌∷◌, ◌++◌, ◌+◌, ◌*◌, ◌<◌}
use Rattle.laws.specs.Kit.{refl, sym, ap, ◌∙◌, List, [], append-nil, append_assoc, ℕ, arith, ℤ, length}
use Rattle.laws.specs.Kit.{take, get_or, take-suc}
use native.Mathlib.Numerals.{add-one}
use mir.Syntax.{w64}
use mir.Val.{SFits, to_z, of_z}
use mir.Facts.{to_z-of_z}
use Rattle.text.specs.Decimal.{codes, signed}
use Rattle.text.specs.Lines.{field_room, Part, fields}
use Rattle.text.proofs.Parts.{part_then, part_is}

fields_more : (zs : List ℤ) (z : ℤ) → fields (zs ++ (z ∷ [])) ≡ fields zs ++ (codes " " ++ signed z)
unfolding fields
fields_more [] z = append-nil (codes " " ++ signed z)
fields_more (y ∷ ys) z =
    ap (λ (l : List ℕ). codes " " ++ signed y ++ l) (fields_more ys z)
    ∙ sym (append_assoc (codes " " ++ signed y) (fields ys) (codes " " ++ signed z))

next_field : (zs : List ℤ) (k : ℕ) (d : ℤ) → k < length zs
    → fields (take k zs) ++ (codes " " ++ signed (get_or zs k d)) ≡ fields (take (k + 1) zs)
next_field zs k d h = sym (rw (add-one k, take-suc zs k d h) (fields_more (take k zs) (get_or zs k d)))

-- the loop's beginning, and a turn of it
pub no_fields : (at : ℕ) (before : List ℕ) → Part 0 (fields []) at before at before
unfolding fields
no_fields at before = record { put = record { next = omega arith; there = refl }; short = omega arith }

pub more_fields : (zs : List ℤ) (k : ℕ) (d : ℤ) {at n r : ℕ} {before between after : List ℕ} → k < length zs → SFits w64 (get_or zs k d)
    → Part (field_room * k) (fields (take k zs)) at before n between
    → Part field_room (codes " " ++ signed (to_z w64 (of_z w64 (get_or zs k d)))) n between r after
    → Part (field_room * (k + 1)) (fields (take (k + 1) zs)) at before r after
more_fields zs k d h f p q =
    part_is (omega arith) (ap (λ (y : ℤ). fields (take k zs) ++ (codes " " ++ signed y)) (to_z-of_z f) ∙ next_field zs k d h) (part_then p q)
