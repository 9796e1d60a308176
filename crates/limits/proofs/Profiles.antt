-- The profiles and the numbers that stand for them are the same both ways, and 22 is for every other number: by the numbers, one by one.
use Rattle.std.specs.Prelude.{◌≡◌, ◌↔◌, ◌⊎◌, ◌||◌, ◌≤◌, Result, Ok, Err}
use Rattle.std.specs.Result.{result_unwrap_or, is_ok}
use Rattle.laws.specs.Kit.{refl, sym, ap, ◌∙◌, inl, inr, Bool, true, false, ℕ, arith, eqb, ne_eqb, eqb-true}
use Rattle.laws.specs.Choose.{pick}
use Rattle.laws.proofs.Choose.{pick_either, false_true}
use Rattle.limits.specs.declared.Profile.{Profile}
use Rattle.limits.specs.declared.Profile.TheVariants.{Video, Compressed, Interlaced}
use Rattle.limits.specs.Paper.{profile_kind, is_profile, profile_of, profile_in, profile_refusal}
use Rattle.refusal.specs.declared.Refusal.{Refusal}
use Rattle.refusal.specs.Told.{number_in, by_number}

-- S12: each profile has a kind that chooses it
pub chosen : (p : Profile) → profile_of (profile_kind p) ≡ p
unfolding profile_of
chosen Video = refl
chosen Compressed = refl
chosen Interlaced = refl

pub is_chosen : (p : Profile) → is_profile (profile_kind p) ≡ true
unfolding is_profile
is_chosen Video = refl
is_chosen Compressed = refl
is_chosen Interlaced = refl

-- the kinds, one by one
abbrev Known : ℕ → Type 0
Known kind = (kind ≡ 1) ⊎ ((kind ≡ 3) ⊎ (kind ≡ 4))

-- S12, S13: and a kind that chooses one is that profile's
profile_kinds : (kind : ℕ) → is_profile kind ≡ true → Known kind
unfolding is_profile
profile_kinds kind = go (eqb kind 1) refl (eqb kind 3) refl (eqb kind 4) refl
  where
    go : (a : Bool) → eqb kind 1 ≡ a → (b : Bool) → eqb kind 3 ≡ b → (c : Bool) → eqb kind 4 ≡ c → is_profile kind ≡ true → Known kind
    go true e b f c g h = inl (eqb-true kind 1 e)
    go false e true f c g h = inr (inl (eqb-true kind 3 f))
    go false e false f true g h = inr (inr (eqb-true kind 4 g))
    go false e false f false g h = absurd (false_true (rw (e, f, g) at h))

pub kind_most : (kind : ℕ) → is_profile kind ≡ true → kind ≤ 4
kind_most kind h = go (profile_kinds kind h)
  where
    go : Known kind → kind ≤ 4
    go (inl e) = omega arith
    go (inr (inl e)) = omega arith
    go (inr (inr e)) = omega arith

pub kind_back : (kind : ℕ) → is_profile kind ≡ true → profile_kind (profile_of kind) ≡ kind
unfolding profile_of
kind_back kind h = go (profile_kinds kind h)
  where
    go : Known kind → profile_kind (profile_of kind) ≡ kind
    go (inl e) = rw e
    go (inr (inl e)) = rw e
    go (inr (inr e)) = rw e

-- S12: so the kinds that choose a profile are the profiles' own
pub by_kind : (kind : ℕ) → (is_profile kind ≡ true) ↔ ((p : Profile) × (kind ≡ profile_kind p) × (profile_of kind ≡ p))
by_kind kind = (λ h. (profile_of kind, sym (kind_back kind h), refl), λ x. ap is_profile x.1 ∙ is_chosen x.0)

-- the tests of the code
pub is_known : (kind : ℕ) → Known kind → true ≡ is_profile kind
unfolding is_profile
is_known kind (inl e) = rw e
is_known kind (inr (inl e)) = rw e
is_known kind (inr (inr e)) = rw e

-- a kind that chooses none goes with video
none_of : (kind : ℕ) → is_profile kind ≡ false → profile_of kind ≡ Video
unfolding is_profile profile_of
none_of kind = go (eqb kind 1) (eqb kind 3) refl (eqb kind 4) refl
  where
    go : (a b : Bool) → eqb kind 3 ≡ b → (c : Bool) → eqb kind 4 ≡ c → a || (b || c) ≡ false → profile_of kind ≡ Video
    go true b f c g h = absurd (false_true (sym h))
    go false true f c g h = absurd (false_true (sym h))
    go false false f true g h = absurd (false_true (sym h))
    go false false f false g h = rw (f, g)

pub no_other : (kind : ℕ) → (kind ≡ 1 → ⊥) → (kind ≡ 3 → ⊥) → (kind ≡ 4 → ⊥) → false ≡ is_profile kind
unfolding is_profile
no_other kind a b c = rw (ne_eqb kind 1 a, ne_eqb kind 3 b, ne_eqb kind 4 c)

-- the profile that a kind chooses, told by its number where it chooses none, and video in its place
pub or_video : (kind : ℕ) (r : Result Profile Refusal) → by_number r ≡ profile_in kind → result_unwrap_or r Video ≡ profile_of kind
or_video kind = go (is_profile kind) refl
  where
    go : (t : Bool) → is_profile kind ≡ t → (r : Result Profile Refusal) → by_number r ≡ profile_in kind → result_unwrap_or r Video ≡ profile_of kind
    go true e (Ok p) f = let same = rw e at f in cc
    go true e (Err d) f = let same = rw e at f in absurd (cc)
    go false e (Ok p) f = let same = rw e at f in absurd (cc)
    go false e (Err d) f = sym (none_of kind e)

pub neither_of : (kind : ℕ) → (kind ≡ 3 → ⊥) → (kind ≡ 4 → ⊥) → Video ≡ profile_of kind
unfolding profile_of
neither_of kind n m = rw (ne_eqb kind 3 n, ne_eqb kind 4 m)

-- N1: 22 refuses exactly the kinds that choose none
pub profile_fine : (kind : ℕ) → profile_refusal kind ≡ 0 → is_profile kind ≡ true
unfolding profile_refusal
profile_fine kind = pick_either (λ n. n ≡ 0 → is_profile kind ≡ true) (is_profile kind) (λ t e. t) (λ t e. absurd (omega arith))

pub profile_known : (kind : ℕ) → is_profile kind ≡ true → profile_refusal kind ≡ 0
unfolding profile_refusal
profile_known kind e = rw e

pub profile_22 : (kind : ℕ) → (profile_refusal kind ≡ 22) ↔ (is_profile kind ≡ false)
unfolding profile_refusal
profile_22 kind = (
  pick_either (λ n. n ≡ 22 → is_profile kind ≡ false) (is_profile kind) (λ t e. absurd (omega arith)) (λ t e. t),
  λ e. rw e,
)

-- the profile that a kind chooses, and its number where it chooses none
pub profile_number : (kind : ℕ) (r : Result Profile Refusal) → by_number r ≡ profile_in kind → number_in r ≡ profile_refusal kind
unfolding profile_refusal
profile_number kind r = go (is_profile kind) r
  where
    go : (t : Bool) (r : Result Profile Refusal) → by_number r ≡ pick t (Ok (profile_of kind)) (Err 22) → number_in r ≡ pick t 0 22
    go true (Ok p) e = refl
    go true (Err d) e = absurd (cc)
    go false (Ok p) e = absurd (cc)
    go false (Err d) e = cc

pub profile_chosen : (kind : ℕ) (r : Result Profile Refusal) → by_number r ≡ profile_in kind → (p : Profile) → r ≡ Ok p → profile_refusal kind ≡ 0
profile_chosen kind r e p f = sym (profile_number kind r e) ∙ ap number_in f

-- a kind chooses a profile exactly where it is not refused
pub profile_known_by : (kind : ℕ) (r : Result Profile Refusal) → by_number r ≡ profile_in kind → is_ok r ≡ is_profile kind
profile_known_by kind r = go (is_profile kind) r
  where
    go : (t : Bool) (r : Result Profile Refusal) → by_number r ≡ pick t (Ok (profile_of kind)) (Err 22) → is_ok r ≡ t
    go true (Ok p) e = refl
    go true (Err d) e = absurd (cc)
    go false (Ok p) e = absurd (cc)
    go false (Err d) e = refl
