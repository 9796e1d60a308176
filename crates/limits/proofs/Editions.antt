-- What set-up refuses where it is told an edition too: 1 to 7 as without one, and 8 exactly where none of these is given and the edition is
-- neither 1 nor 2. By the two numbers, of which the first goes before.
use Rattle.std.specs.Prelude.{◌≡◌, ◌↔◌, ◌∷◌, ◌+◌, ◌≤◌, ◌<◌}
use Rattle.laws.specs.Kit.{sym, ◌∙◌, Bool, true, List, [], ℕ, suc, arith, length, eqb, leb, le-leb, leb-true}
use Rattle.laws.specs.Kit.{ℕ_discrete}
use Rattle.laws.proofs.Choose.{pick_either, neither, second, before}
use Rattle.laws.proofs.Every.{and_left, and_right}
use Rattle.limits.specs.declared.Parameters.{Parameters}
use Rattle.limits.specs.declared.Profile.{Profile}
use Rattle.limits.specs.Paper.{within, questions, first_no, set_up_refusal, edition_refusal, set_up_in}
use Rattle.limits.specs.Accepted.{KnownEdition}

known : (edition : ℕ) → within 1 2 edition ≡ true → KnownEdition edition
known edition e = (
  leb-true 1 edition (and_left (leb 1 edition) (leb edition 2) e),
  leb-true edition 2 (and_right (leb 1 edition) (leb edition 2) e),
)

pub edition_fine : (edition : ℕ) → KnownEdition edition → edition_refusal edition ≡ 0
unfolding edition_refusal
edition_fine edition h = rw (le-leb 1 edition h.0, le-leb edition 2 h.1)

pub edition_known : (edition : ℕ) → edition_refusal edition ≡ 0 → KnownEdition edition
unfolding edition_refusal
edition_known edition =
    pick_either (λ n. n ≡ 0 → KnownEdition edition) (within 1 2 edition) (λ t e. known edition t) (λ t e. absurd (omega arith))

-- S11: 8 refuses exactly the editions that there are not
pub edition_8 : (edition : ℕ) → (KnownEdition edition → ⊥) → edition_refusal edition ≡ 8
unfolding edition_refusal
edition_8 edition other =
    pick_either (λ n. n ≡ 8) (within 1 2 edition) (λ t. absurd (other (known edition t))) (λ t. omega arith)

-- a count that begins at k ends before it has gone through so many questions
counted : (k : ℕ) (l : List Bool) → 0 < k → first_no k l < k + length l
unfolding first_no
counted k [] h = omega arith
counted k (answer ∷ more) h =
    pick_either (λ n. n < k + suc (length more)) answer (λ e. omega (arith, counted (suc k) more (omega arith))) (λ e. omega arith)

-- N2: the parameters are refused by 1 to 7
pub at_most_7 : (profile : Profile) (p : Parameters) → set_up_refusal profile p ≤ 7
unfolding set_up_refusal
at_most_7 profile p = omega (arith, counted 1 (questions profile p) (omega arith))

module _ (profile : Profile) (p : Parameters) (edition : ℕ) where
  pub in_fine : set_up_in profile p edition ≡ 0 → (set_up_refusal profile p ≡ 0) × KnownEdition edition
  unfolding set_up_in
  in_fine e =
      let both = neither (set_up_refusal profile p) (edition_refusal edition) e in
      (both.0, edition_known edition both.1)

  pub in_first : 0 < set_up_refusal profile p → set_up_in profile p edition ≡ set_up_refusal profile p
  unfolding set_up_in
  in_first h = before (set_up_refusal profile p) (edition_refusal edition) h

  pub in_edition : set_up_refusal profile p ≡ 0 → set_up_in profile p edition ≡ edition_refusal edition
  unfolding set_up_in
  in_edition e = second (set_up_refusal profile p) (edition_refusal edition) e

  -- N2: set-up refuses by 1 to 8
  pub at_most_8 : set_up_in profile p edition ≤ 8
  unfolding set_up_in edition_refusal
  at_most_8 =
      pick_either (λ n. n ≤ 8) (eqb (set_up_refusal profile p) 0)
      (λ e. pick_either (λ n. n ≤ 8) (within 1 2 edition) (λ t. omega arith) (λ t. omega arith)) (λ e. omega (arith, at_most_7 profile p))

  -- S11: an edition that there is leaves set-up what it was
  pub in_known : KnownEdition edition → set_up_in profile p edition ≡ set_up_refusal profile p
  in_known h = go (ℕ_discrete (set_up_refusal profile p) 0)
    where
      go : Dec (set_up_refusal profile p ≡ 0) → set_up_in profile p edition ≡ set_up_refusal profile p
      go (yes e) = in_edition e ∙ edition_fine edition h ∙ sym e
      go (no n) = in_first (omega arith)

  -- N2, S11: 8 comes after 1 to 7, and is given exactly where none of these is and the edition is neither 1 nor 2
  pub refused_8 : (set_up_in profile p edition ≡ 8) ↔ ((set_up_refusal profile p ≡ 0) × (KnownEdition edition → ⊥))
  refused_8 = (
    λ e. (fine e (ℕ_discrete (set_up_refusal profile p) 0), λ h. omega (arith, in_known h, at_most_7 profile p)),
    λ x. in_edition x.0 ∙ edition_8 edition x.1,
  )
    where
      fine : set_up_in profile p edition ≡ 8 → Dec (set_up_refusal profile p ≡ 0) → set_up_refusal profile p ≡ 0
      fine e (yes z) = z
      fine e (no n) = absurd (omega (arith, in_first (omega arith), at_most_7 profile p))

-- S11: where none is told, edition 1, set-up refuses what it did
pub in_one : (profile : Profile) (p : Parameters) → set_up_in profile p 1 ≡ set_up_refusal profile p
in_one profile p = in_known profile p 1 (omega arith, omega arith)
