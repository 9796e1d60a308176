-- One law for each way out of the reader's functions, from the tests before it.
use Rattle.std.specs.Prelude.{◌≡◌, ◌⊎◌, ◌∷◌, ◌+◌, ◌-◌, ◌≤◌, ◌<◌}
use Rattle.laws.specs.Kit.{refl, sym, ap, subst, ◌∙◌, ⊎_elim, Bool, true, false, List, ℕ, zero, suc}
use Rattle.laws.specs.Kit.{arith, ltb, eqb, length}
use Rattle.laws.specs.Kit.{take, drop, length-drop, drop_of_length-le, take_all, drop-length, eq-eqb, ne_eqb, eqb-true, eqb-false}
use Rattle.laws.specs.Kit.{ltb-false}
use Rattle.std.proofs.lemmas.List.{drop-take, take-take, get_or-take}
use Rattle.laws.specs.Choose.{pick}
use Rattle.laws.proofs.Choose.{pick_either}
use Rattle.record.specs.declared.Framed.{Framed}
use Rattle.record.specs.declared.Framed.TheVariants as framed
use Rattle.record.specs.Paper.{packet_bytes, head_bytes, version_known, version_of, version_fits, first_class, class_in, body_length}
use Rattle.record.specs.Paper.{is_parameters, kind_length, parameters_at, packet_at}
use Rattle.record.specs.Step.{cursor, after, packet_of, scrap_of, framed_of, Whole, first_of, head_by, head_piece, whole_of, next_by, next_piece}
use Rattle.record.specs.Step.{head_more, head_ready, head_refused, next_refused}
use Rattle.record.proofs.Format.{framed_short}

-- ---- versions

pub known_version : (version : ℕ) → 1 ≤ version → version < 3 → true ≡ version_known version
unfolding version_known
known_version zero low high = absurd (omega arith)
known_version (suc zero) low high = refl
known_version (suc (suc zero)) low high = refl
known_version (suc (suc (suc version))) low high = absurd (omega arith)

pub other_version : (version : ℕ) → (version ≡ 1 → ⊥) → (version ≡ 2 → ⊥) → false ≡ version_known version
unfolding version_known
other_version version a b = sym (rw (ne_eqb version 1 a, ne_eqb version 2 b))

pub class_later : (version class : ℕ) → (version ≡ 1 → ⊥) → class ≡ class_in version class
unfolding class_in
class_later version class n = sym (rw (ne_eqb version 1 n))

-- version 1: 0 and 3 are both 3, and any other number is itself
pub class_wide : (version class : ℕ) → version ≡ 1 → (class ≡ 0) ⊎ (class ≡ 3) → 3 ≡ class_in version class
unfolding class_in
class_wide version class v e = sym (rw v (⊎_elim (λ z. ap first_class z) (λ z. ap first_class z) e))

pub class_kept : (version class : ℕ) → version ≡ 1 → (class ≡ 0 → ⊥) → class ≡ class_in version class
unfolding class_in
class_kept version class v n = rw v (go class n)
  where
    go : (class : ℕ) → (class ≡ 0 → ⊥) → class ≡ first_class class
    go zero n = absurd (n refl)
    go (suc c) n = refl

-- ---- kinds

pub length_none : (kind : ℕ) → is_parameters kind ≡ false → (kind ≡ 2 → ⊥) → kind_length kind ≡ 0
unfolding kind_length
length_none kind e n = rw (e, ne_eqb kind 2 n)

-- fewer than the two bytes of a length
module _ (size : ℕ) (last : Bool) where
  pub scrap_more : last ≡ false → scrap_of size last ≡ framed.More
  unfolding scrap_of
  scrap_more e = rw e

  pub scrap_nothing : last ≡ true → size ≡ 0 → scrap_of size last ≡ framed.Nothing
  unfolding scrap_of
  scrap_nothing e s = rw (e, eq-eqb size 0 s)

  pub scrap_cut : last ≡ true → (size ≡ 0 → ⊥) → scrap_of size last ≡ framed.Cut
  unfolding scrap_of
  scrap_cut e s = rw (e, ne_eqb size 0 s)

-- a record that is cut short
module _ (w : List ℕ) (last : Bool) (t : 2 ≤ length w) (b : 0 < body_length w) (k : length w < 2 + body_length w) where
  pub short_cut : last ≡ true → framed_of w last ≡ framed.Cut
  short_cut e = framed_short w last t b k ∙ rw e

  pub short_waits : last ≡ false → framed_of w last ≡ framed.More
  short_waits e = framed_short w last t b k ∙ rw e

-- what a framing says of its window
abbrev pub Frames : List ℕ → Bool → Framed → Type 0
Frames w last framed.Nothing = (last ≡ true) × (length w ≡ 0)
Frames w last framed.Cut = Unit
Frames w last (framed.Whole body kind) = Whole body kind w
Frames w last framed.More = last ≡ false

pub frames : (w : List ℕ) (last : Bool) → Frames w last (framed_of w last)
unfolding framed_of scrap_of
frames w last =
    let P : Framed → Type 0 = Frames w last in
    pick_either P (ltb (length w) 2)
    (λ h. pick_either P last (λ e. pick_either P (eqb (length w) 0) (λ z. (e, eqb-true (length w) 0 z)) (λ z. tt)) (λ e. e))
    (λ h1. pick_either P (eqb (body_length w) 0) (λ h. tt)
    (λ h2. pick_either P (ltb (length w) (2 + body_length w)) (λ h. pick_either P last (λ e. tt) (λ e. e))
    (λ h3. record {
      length_read = refl;
      kind_read = refl;
      some_body = let n = eqb-false (body_length w) 0 h2 in omega arith;
      all_there = ltb-false _ _ h3;
    })))

pub is_whole : (w : List ℕ) (last : Bool) {f : Framed} {body kind : ℕ} → f ≡ framed_of w last → f ≡ framed.Whole body kind → Whole body kind w
is_whole w last e q = subst (Frames w last) (sym e ∙ q) (frames w last)

-- the first record, and any other
module _ (version body kind : ℕ) (l : List ℕ) where
  pub first_22 : (body ≡ kind_length kind → ⊥) → first_of version body kind l ≡ head_refused 22 1
  unfolding first_of
  first_22 n = rw (ne_eqb body (kind_length kind) n)

  pub first_23 : body ≡ kind_length kind → is_parameters kind ≡ false → first_of version body kind l ≡ head_refused 23 1
  unfolding first_of
  first_23 e p = rw (eq-eqb body (kind_length kind) e, p)

  pub first_ready : body ≡ kind_length kind → is_parameters kind ≡ true
      → first_of version body kind l ≡ head_ready version kind (parameters_at l) (cursor head_bytes)
  unfolding first_of
  first_ready e p = rw (eq-eqb body (kind_length kind) e, p)

module _ (at body kind : ℕ) (l : List ℕ) where
  pub whole_22 : (body ≡ kind_length kind → ⊥) → whole_of at body kind l ≡ next_refused 22 at (2 + body)
  unfolding whole_of
  whole_22 n = rw (ne_eqb body (kind_length kind) n)

  pub whole_23 : body ≡ kind_length kind → is_parameters kind ≡ true → whole_of at body kind l ≡ next_refused 23 at (2 + body)
  unfolding whole_of
  whole_23 e p = rw (eq-eqb body (kind_length kind) e, p)

  pub whole_packet : body ≡ kind_length kind → is_parameters kind ≡ false → whole_of at body kind l ≡ packet_of l (after at packet_bytes)
  unfolding whole_of
  whole_packet e p = rw (eq-eqb body (kind_length kind) e, p)

-- by the framing that was seen
pub head_framed : (version : ℕ) (w : List ℕ) (last : Bool) {f g : Framed} → f ≡ framed_of w last → f ≡ g
    → head_by version w g ≡ head_by version w (framed_of w last)
head_framed version w last e q = ap (head_by version w) (sym q ∙ e)

pub next_framed : (at : ℕ) (w : List ℕ) (last : Bool) {f g : Framed} → f ≡ framed_of w last → f ≡ g
    → next_by at w g ≡ next_piece at w last
unfolding next_piece
next_framed at w last e q = ap (next_by at w) (sym q ∙ e)

-- the version byte
module _ (w : List ℕ) (last : Bool) where
  pub head_none : length w ≡ 0 → last ≡ true → head_piece w last ≡ head_refused 20 0
  unfolding head_piece
  head_none h e = rw (eq-eqb (length w) 0 h, e)

  pub head_waits_for_more : length w ≡ 0 → last ≡ false → head_piece w last ≡ head_more
  unfolding head_piece
  head_waits_for_more h e = rw (eq-eqb (length w) 0 h, e)

  module _ (h : length w ≡ 0 → ⊥) where
    pub head_unknown : version_fits w ≡ false → head_piece w last ≡ head_refused 20 0
    unfolding head_piece
    head_unknown e = rw (ne_eqb (length w) 0 h, e)

    pub head_first : version_fits w ≡ true → head_piece w last ≡ head_by (version_of w) (drop 1 w) (framed_of (drop 1 w) last)
    unfolding head_piece
    head_first e = rw (ne_eqb (length w) 0 h, e)

pub head_cons : (b : ℕ) (l : List ℕ) (last : Bool)
    → head_piece (b ∷ l) last ≡ pick (version_known b) (head_by b l (framed_of l last)) (head_refused 20 0)
unfolding head_piece
head_cons b l last = rw (ne_eqb (length (b ∷ l)) 0 (λ z. omega arith))

-- the rest of a file as a part of it

pub rest_all : (s : List ℕ) (at : ℕ) → take (length s - at) (drop at s) ≡ drop at s
rest_all s at = take_all (length s - at) (drop at s) (rw length-drop (omega arith))

pub rest_none : (s : List ℕ) (at : ℕ) → length s < at → take (length s - length s) (drop (length s) s) ≡ drop at s
rest_none s at h = rest_all s (length s) ∙ drop-length s ∙ sym (drop_of_length-le s {i = at} (omega arith))

-- a packet is read from its own bytes alone
pub packet_alone : (l : List ℕ) → packet_at (take packet_bytes l) ≡ packet_at l
packet_alone l =
    rw (
      drop-take 3 13 l,
      take-take 8 13 (drop 3 l) (omega arith),
      drop-take 11 5 l,
      take-take 4 5 (drop 11 l) (omega arith),
      get_or-take 16 l 15 0 (omega arith),
    )
