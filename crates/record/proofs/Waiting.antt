-- More is answered only where another piece could change the answer: two continuations of the window that the whole file's reading
-- tells apart. By what the window lacks: with nothing after it there is no record or it is cut short, with enough after it, it is not.
use Rattle.std.specs.Prelude.{◌≡◌, ◌∷◌, ◌++◌, ◌+◌, ◌*◌}
use Rattle.laws.specs.Kit.{refl, sym, ap, ◌∙◌, Bool, true, false, List, [], append-nil, ℕ, arith, eqb}
use Rattle.laws.specs.Kit.{replicate, length-append, length-replicate}
use Rattle.laws.proofs.Choose.{pick_either, false_true}
use Rattle.endian.specs.Number.{number_of}
use Rattle.record.specs.declared.Framed.{Framed}
use Rattle.record.specs.declared.Framed.TheVariants as framed
use Rattle.record.specs.Step.{HeadRead, head_refused}
use Rattle.record.specs.Step.{NextRead}
use Rattle.record.specs.Paper.{version_known, body_length, kind_of, is_parameters, kind_length}
use Rattle.record.specs.Step.{framed_of, first_of, head_by, head_piece, head_read, whole_of, next_by, next_piece, next_read}
use Rattle.record.specs.Pieces.{read_number, wants_more, head_waits, head_number, Depends, HeadDepends}
use Rattle.record.proofs.Format.{Front, scrap, zero_length, short, whole, front, framed_nothing, framed_byte, framed_zero, framed_short}
use Rattle.record.proofs.Format.{framed_whole}
use Rattle.record.proofs.Ways.{known_version, head_none, head_cons}
use Rattle.record.proofs.Window.{number_front, next_known, head_known}

-- two continuations: nothing there and a length of 0, or a record cut short and the whole of it
pub data Apart (w : List ℕ) : Type 0 where
  nothing_there : (other : List ℕ) → framed_of w true ≡ framed.Nothing → framed_of (w ++ other) true ≡ framed.Cut → Apart w
  cut_short : (other : List ℕ) (body kind : ℕ) → framed_of w true ≡ framed.Cut → framed_of (w ++ other) true ≡ framed.Whole body kind → Apart w

zeros : ℕ → List ℕ
zeros n = replicate n 0

apart : (w : List ℕ) → (framed_of w false ≡ framed.More) → Apart w
unfolding number_of zeros
apart w e = go w (front w) e
  where
    known : (w : List ℕ) {f : Framed} → framed_of w false ≡ f → framed_of w false ≡ framed.More → f ≡ framed.More
    known w q e = sym q ∙ e

    go : (w : List ℕ) → Front w → framed_of w false ≡ framed.More → Apart w
    go [] (scrap h) e = nothing_there (0 ∷ 0 ∷ []) (framed_nothing [] refl) (framed_zero (0 ∷ 0 ∷ []) true (omega arith) refl)
    go (b ∷ []) (scrap h) e =
        cut_short (1 ∷ zeros (b * 256 + 1)) (b * 256 + 1) (kind_of (b ∷ 1 ∷ zeros (b * 256 + 1))) (framed_byte (b ∷ []) (λ z. omega arith) h)
        (framed_whole (b ∷ 1 ∷ zeros (b * 256 + 1)) true (record {
          length_read = omega arith;
          kind_read = refl;
          some_body = omega arith;
          all_there = omega (arith, length-replicate {A = ℕ} (b * 256 + 1) 0);
        }))
    go (b ∷ c ∷ w) (scrap h) e = absurd (omega arith)
    go w (zero_length t z) e = let q = known w (framed_zero w false t z) e in let n : ◌≡◌ {A = ℕ} 0 1 = cc in absurd (omega arith)
    go w (whole a) e = let q = known w (framed_whole w false a) e in let n : ◌≡◌ {A = ℕ} 0 1 = cc in absurd (omega arith)
    go w (short t b k) e =
        cut_short (zeros (body_length w)) (body_length w) (kind_of (w ++ zeros (body_length w))) (framed_short w true t b k)
        (framed_whole (w ++ zeros (body_length w)) true (record {
          length_read = sym (number_front w (zeros (body_length w)) 2 0 (omega arith));
          kind_read = refl;
          some_body = b;
          all_there = omega (arith, length-append w (zeros (body_length w)), length-replicate {A = ℕ} (body_length w) 0);
        }))

-- ---- after the head

-- a whole record is not refused by 21
not_21 : (at body kind : ℕ) (l : List ℕ) → read_number (whole_of at body kind l) ≡ 21 → ⊥
unfolding whole_of
not_21 at body kind l =
    let P : NextRead → Type 0 = λ r. read_number r ≡ 21 → ⊥ in
    pick_either P (eqb body (kind_length kind))
    (λ e. pick_either P (is_parameters kind) (λ p z. omega arith) (λ p z. omega arith)) (λ e z. omega arith)

number_by : (at : ℕ) (l : List ℕ) {f : Framed} → framed_of l true ≡ f → read_number (next_read at l) ≡ read_number (next_by at l f)
unfolding next_piece
number_by at l e = ap (λ g. read_number (next_by at l g)) e

depends : (at : ℕ) (w : List ℕ) → Apart w → Depends at w
depends at w (nothing_there other a b) = record {
  one = [];
  other = other;
  differ = λ same.
      let n = sym (number_by at w a) ∙ ap (λ l. read_number (next_read at l)) (sym (append-nil w)) ∙ ap read_number same
      ∙ number_by at (w ++ other) b in omega (arith, n);
}
depends at w (cut_short other body kind a b) = record {
  one = [];
  other = other;
  differ = λ same.
      let n = sym (number_by at w a) ∙ ap (λ l. read_number (next_read at l)) (sym (append-nil w)) ∙ ap read_number same
      ∙ number_by at (w ++ other) b in not_21 at body kind (w ++ other) (sym n);
}

-- more is wanted only where the answer depends on what follows
pub more_needed : (at : ℕ) (w : List ℕ) → wants_more (next_piece at w false) ≡ true → Depends at w
unfolding next_piece
more_needed at w m = go (framed_of w false) refl
  where
    go : (f : Framed) → framed_of w false ≡ f → Depends at w
    go framed.More e = depends at w (apart w e)
    go framed.Nothing e = absurd (false_true (sym (ap (λ g. wants_more (next_by at w g)) e) ∙ m))
    go framed.Cut e = absurd (false_true (sym (ap (λ g. wants_more (next_by at w g)) e) ∙ m))
    go (framed.Whole body kind) e =
        let known = next_known at w (framed.Whole body kind) (λ q. let n : ◌≡◌ {A = ℕ} 0 1 = cc in omega arith) in
        absurd (false_true (sym (ap (λ g. wants_more (next_by at w g)) e ∙ known) ∙ m))

-- ---- the head

first_not_21 : (version body kind : ℕ) (l : List ℕ) → head_number (first_of version body kind l) ≡ 21 → ⊥
unfolding first_of
first_not_21 version body kind l =
    let P : HeadRead → Type 0 = λ r. head_number r ≡ 21 → ⊥ in
    pick_either P (eqb body (kind_length kind))
    (λ e. pick_either P (is_parameters kind) (λ p z. omega arith) (λ p z. omega arith)) (λ e z. omega arith)

-- behind the version byte
module _ (b : ℕ) (v : version_known b ≡ true) where
  head_by_lem : (l : List ℕ) {f : Framed} → framed_of l true ≡ f → head_number (head_read (b ∷ l)) ≡ head_number (head_by b l f)
  head_by_lem l e = ap head_number (head_cons b l true) ∙ rw (v, e)

  head_depends : (l : List ℕ) → Apart l → HeadDepends (b ∷ l)
  head_depends l (nothing_there other x y) = record {
    one = [];
    other = other;
    differ = λ same.
        let n = sym (head_by_lem l x) ∙ ap (λ m. head_number (head_read (b ∷ m))) (sym (append-nil l)) ∙ ap head_number same
        ∙ head_by_lem (l ++ other) y in omega (arith, n);
  }
  head_depends l (cut_short other body kind x y) = record {
    one = [];
    other = other;
    differ = λ same.
        let n = sym (head_by_lem l x) ∙ ap (λ m. head_number (head_read (b ∷ m))) (sym (append-nil l)) ∙ ap head_number same
        ∙ head_by_lem (l ++ other) y in first_not_21 b body kind (l ++ other) (sym n);
  }

  first_needed : (l : List ℕ) → head_waits (head_by b l (framed_of l false)) ≡ true → HeadDepends (b ∷ l)
  first_needed l m = go (framed_of l false) refl
    where
      go : (f : Framed) → framed_of l false ≡ f → HeadDepends (b ∷ l)
      go framed.More e = head_depends l (apart l e)
      go framed.Nothing e = absurd (false_true (sym (ap (λ g. head_waits (head_by b l g)) e) ∙ m))
      go framed.Cut e = absurd (false_true (sym (ap (λ g. head_waits (head_by b l g)) e) ∙ m))
      go (framed.Whole body kind) e =
          let known = head_known b l (framed.Whole body kind) (λ q. let n : ◌≡◌ {A = ℕ} 0 1 = cc in omega arith) in
          absurd (false_true (sym (ap (λ g. head_waits (head_by b l g)) e ∙ known) ∙ m))

-- no byte, and the version byte 1
no_byte : HeadDepends []
no_byte = record {
  one = [];
  other = 1 ∷ [];
  differ = λ same.
      let known = sym (known_version 1 (omega arith) (omega arith)) in
      let n = sym (ap head_number (head_none [] true refl refl)) ∙ ap head_number same ∙ head_by_lem 1 known [] (framed_nothing [] refl) in
      omega (arith, n);
}

pub head_needed : (w : List ℕ) → head_waits (head_piece w false) ≡ true → HeadDepends w
head_needed [] m = no_byte
head_needed (b ∷ l) m = go (version_known b) refl
  where
    go : (t : Bool) → version_known b ≡ t → HeadDepends (b ∷ l)
    go true v =
        let same : head_piece (b ∷ l) false ≡ head_by b l (framed_of l false) = head_cons b l false ∙ rw v in
        first_needed b v l (sym (ap head_waits same) ∙ m)
    go false v =
        let same : head_piece (b ∷ l) false ≡ head_refused 20 0 = head_cons b l false ∙ rw v in
        absurd (false_true (sym (ap head_waits same) ∙ m))
