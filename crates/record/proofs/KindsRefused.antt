-- What 22 and 23 say of each kind of record, by the tests of a record that is all there.
use Rattle.std.specs.Prelude.{◌≡◌}
use Rattle.laws.specs.Kit.{sym, ◌∙◌, Bool, true, false, List, ℕ, eq-eqb, ne_eqb}
use Rattle.limits.specs.declared.Profile.TheVariants.{Video, Compressed, Interlaced}
use Rattle.limits.proofs.Profiles.{is_chosen, no_other}
use Rattle.record.specs.Paper.{parameters_length, packet_length, body_length, kind_of, is_parameters, kind_length, format_refusal}
use Rattle.record.specs.Step.{Whole}
use Rattle.record.proofs.Format.{length_16, length_14, there}
use Rattle.record.proofs.Ways.{length_none}

-- F3, F4, F14: kinds 1, 3 and 4 have 16 bytes, 2 has 14, and no other has a length that a record has
pub lengths : (kind_length 1 ≡ parameters_length) × (kind_length 2 ≡ packet_length) × (kind_length 3 ≡ parameters_length)
    × (kind_length 4 ≡ parameters_length)
    × ((kind : ℕ) → (kind ≡ 1 → ⊥) → (kind ≡ 2 → ⊥) → (kind ≡ 3 → ⊥) → (kind ≡ 4 → ⊥) → kind_length kind ≡ 0)
unfolding is_parameters
lengths = (
  length_16 1 (is_chosen Video),
  length_14,
  length_16 3 (is_chosen Compressed),
  length_16 4 (is_chosen Interlaced),
  λ kind a b c d. length_none kind (sym (no_other kind a c d)) b,
)

module _ (l : List ℕ) (w : Whole (body_length l) (kind_of l) l) where
  -- N1: "22 unknown kind, or wrong length for its kind"
  pub wrong_length : (first : Bool) → (body_length l ≡ kind_length (kind_of l) → ⊥) → format_refusal first l ≡ 22
  wrong_length first n = there first l w ∙ rw (ne_eqb (body_length l) (kind_length (kind_of l)) n)

  module _ (fits : body_length l ≡ kind_length (kind_of l)) where
    -- N1: "23 no parameters first"
    pub none_first : is_parameters (kind_of l) ≡ false → format_refusal true l ≡ 23
    none_first k = there true l w ∙ rw (eq-eqb (body_length l) (kind_length (kind_of l)) fits, k)

    -- N1: "or parameters again", of any kind that holds them
    pub again : is_parameters (kind_of l) ≡ true → format_refusal false l ≡ 23
    again k = there false l w ∙ rw (eq-eqb (body_length l) (kind_length (kind_of l)) fits, k)
