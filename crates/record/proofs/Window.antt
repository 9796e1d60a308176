-- A window that shows enough answers as the whole file does, whatever bytes follow it, and a window of 65,537 bytes shows enough: all
-- that is looked at lies within the window. The next record and the head both answer by the framing in front (`shown`).
use Rattle.std.specs.Prelude.{◌≡◌, ◌∷◌, ◌++◌, ◌+◌, ◌≤◌, ◌<◌, Ok, Err, Some, None}
use Rattle.laws.specs.Kit.{refl, sym, ap, ◌∙◌, Bool, true, false, List, [], ℕ, arith, eqb, length, take}
use Rattle.laws.specs.Kit.{drop, get_or, length-append, length-drop, get_or-append, take-append-le, drop-append-le, length-take-le}
use Rattle.laws.specs.Kit.{eqb-true}
use Rattle.laws.specs.Choose.{pick}
use Rattle.laws.proofs.Choose.{pick_either, false_true}
use Rattle.endian.specs.Number.{number_at, Bytes}
use Rattle.endian.proofs.Width.{number_small, bytes_take}
use Rattle.record.specs.declared.Framed.{Framed}
use Rattle.record.specs.declared.Framed.TheVariants as framed
use Rattle.record.specs.Step.{HeadRead, head_ready, head_refused, next_refused, next_packet}
use Rattle.record.specs.Step.{NextRead}
use Rattle.record.specs.declared.Next.TheVariants.{Packet, End, More}
use Rattle.record.specs.Paper.{parameters_bytes, packet_bytes, head_bytes, version_known, body_length, is_parameters, kind_length}
use Rattle.record.specs.Paper.{parameters_at, packet_at}
use Rattle.record.specs.Step.{cursor, scrap_of, framed_of, Whole, first_of, head_by, head_piece, head_read}
use Rattle.record.specs.Step.{after, packet_of, whole_of, next_by, next_piece, next_read}
use Rattle.record.specs.Pieces.{reading_goes_on, taken, wants_more, head_waits}
use Rattle.record.proofs.Format.{Front, scrap, zero_length, short, whole, front, framed_scrap, framed_zero, framed_short, framed_whole}
use Rattle.record.proofs.Format.{parameter_room, packet_room}
use Rattle.record.proofs.Ways.{head_waits_for_more, head_cons}
use Rattle.record.proofs.Reading.{packet_here}
use Rattle.record.proofs.Saying.{Says, next_says, SaysHead, head_says}

-- two answers by the length and the kind of what stands in front, each part alike where it is picked
alike : {A : Type 0} (t p : Bool) (x y z : List ℕ → A) (l m : List ℕ) → (t ≡ true → p ≡ true → x l ≡ x m)
    → (t ≡ true → p ≡ false → y l ≡ y m) → z l ≡ z m → pick t (pick p (x l) (y l)) (z l) ≡ pick t (pick p (x m) (y m)) (z m)
alike true true x y z l m e f g = e refl refl
alike true false x y z l m e f g = f refl refl
alike false p x y z l m e f g = g

module _ (w v : List ℕ) where
  pub number_front : (k at : ℕ) → at + k ≤ length w → number_at k (w ++ v) at ≡ number_at k w at
  number_front k at h =
      rw (drop-append-le at w v (omega arith), take-append-le k (drop at w) v (rw length-drop (omega arith)))

  byte_front : (at : ℕ) → at < length w → get_or (w ++ v) at 0 ≡ get_or w at 0
  byte_front at h = get_or-append w v 0 at h

  longer : length w ≤ length (w ++ v)
  longer = omega (arith, length-append w v)

  parameters_front : parameters_bytes ≤ length w → parameters_at (w ++ v) ≡ parameters_at w
  parameters_front h =
      rw (
        byte_front 3 (omega arith),
        byte_front 4 (omega arith),
        byte_front 5 (omega arith),
        number_front 2 6 (omega arith),
        number_front 4 8 (omega arith),
        number_front 2 12 (omega arith),
        number_front 4 14 (omega arith),
      )

  packet_front : packet_bytes ≤ length w → packet_at (w ++ v) ≡ packet_at w
  packet_front h = rw (number_front 8 3 (omega arith), number_front 4 11 (omega arith), byte_front 15 (omega arith))

  -- a length of 0, and a whole record
  zero_longer : (last : Bool) → 2 ≤ length w → body_length w ≡ 0 → framed_of (w ++ v) last ≡ framed.Cut
  zero_longer last t e = framed_zero (w ++ v) last (omega (arith, longer)) (number_front 2 0 (omega arith) ∙ e)

  module _ {body kind : ℕ} (a : Whole body kind w) where
    pub whole_longer : Whole body kind (w ++ v)
    whole_longer = record {
      length_read = a.length_read ∙ sym (number_front 2 0 (omega arith));
      kind_read = a.kind_read ∙ sym (byte_front 2 (omega arith));
      some_body = a.some_body;
      all_there = omega (arith, longer);
    }

    next_front : (at : ℕ) → whole_of at body kind (w ++ v) ≡ whole_of at body kind w
    unfolding whole_of
    next_front at = alike (eqb body (kind_length kind)) (is_parameters kind) (λ l. next_refused 23 at (2 + body))
        (λ l. packet_of l (after at packet_bytes)) (λ l. next_refused 22 at (2 + body)) (w ++ v) w (λ t p. refl)
        (λ t p. ap (λ q. next_packet q (after at packet_bytes))
        (packet_front (omega (arith, (packet_room a (eqb-true body (kind_length kind) t) p).inside)))) refl

    first_front : (version : ℕ) → first_of version body kind (w ++ v) ≡ first_of version body kind w
    unfolding first_of
    first_front version = alike (eqb body (kind_length kind)) (is_parameters kind)
        (λ l. head_ready version kind (parameters_at l) (cursor head_bytes)) (λ l. head_refused 23 1) (λ l. head_refused 22 1) (w ++ v) w
        (λ t p. ap (λ x. head_ready version kind x (cursor head_bytes))
        (parameters_front (omega (arith, (parameter_room a (eqb-true body (kind_length kind) t) p).inside)))) (λ t p. refl) refl

-- ---- more is answered where the framing wants more, and nowhere else

one_of_three : {A : Type 0} (P : A → Type 0) (t p : Bool) {x y z : A} → P x → P y → P z → P (pick t (pick p x y) z)
one_of_three P t p x y z = pick_either P t (λ e. pick_either P p (λ f. x) (λ f. y)) (λ e. z)

unless_more : (P : Framed → Type 0) → P framed.Nothing → P framed.Cut → ((body kind : ℕ) → P (framed.Whole body kind)) → (f : Framed)
    → (f ≡ framed.More → ⊥) → P f
unless_more P none cut all framed.Nothing n = none
unless_more P none cut all framed.Cut n = cut
unless_more P none cut all (framed.Whole body kind) n = all body kind
unless_more P none cut all framed.More n = absurd (n refl)

pub next_known : (at : ℕ) (l : List ℕ) (f : Framed) → (f ≡ framed.More → ⊥) → wants_more (next_by at l f) ≡ false
unfolding whole_of
next_known at l = unless_more (λ f. wants_more (next_by at l f) ≡ false) refl refl
    (λ body kind. one_of_three (λ r. wants_more r ≡ false) (eqb body (kind_length kind)) (is_parameters kind) refl refl refl)

pub head_known : (version : ℕ) (l : List ℕ) (f : Framed) → (f ≡ framed.More → ⊥) → head_waits (head_by version l f) ≡ false
unfolding first_of
head_known version l = unless_more (λ f. head_waits (head_by version l f) ≡ false) refl refl
    (λ body kind. one_of_three (λ r. head_waits r ≡ false) (eqb body (kind_length kind)) (is_parameters kind) refl refl refl)

-- ---- whatever follows a window that shows enough

-- what answers by the framing in front, alike at a length of 0 and at a whole record
shown : {A : Type 0} (by : List ℕ → Framed → A) (w v : List ℕ) (last : Bool) → by (w ++ v) framed.Cut ≡ by w framed.Cut
    → ((body kind : ℕ) → Whole body kind w → by (w ++ v) (framed.Whole body kind) ≡ by w (framed.Whole body kind))
    → (framed_of w false ≡ framed.More → ⊥) → by (w ++ v) (framed_of (w ++ v) last) ≡ by w (framed_of w false)
unfolding scrap_of
shown by w v last cut whole_same enough = go (front w)
  where
    go : Front w → by (w ++ v) (framed_of (w ++ v) last) ≡ by w (framed_of w false)
    go (scrap h) = absurd (enough (framed_scrap w false h))
    go (zero_length t e) = rw (zero_longer w v last t e, framed_zero w false t e) cut
    go (short t b k) = absurd (enough (framed_short w false t b k))
    go (whole a) = rw (framed_whole (w ++ v) last (whole_longer w v a), framed_whole w false a) (whole_same _ _ a)

pub next_same : (at : ℕ) (w v : List ℕ) (last : Bool) → wants_more (next_piece at w false) ≡ false
    → next_piece at (w ++ v) last ≡ next_piece at w false
unfolding next_piece
next_same at w v last m = shown (next_by at) w v last refl (λ body kind a. next_front w v a at)
    (λ e. false_true (sym m ∙ ap (λ f. wants_more (next_by at w f)) e))

pub head_same : (w v : List ℕ) (last : Bool) → head_waits (head_piece w false) ≡ false → head_piece (w ++ v) last ≡ head_piece w false
head_same [] v last m = absurd (false_true (sym m ∙ ap head_waits (head_waits_for_more [] false refl refl)))
head_same (b ∷ l) v last m = head_cons b (l ++ v) last ∙ go (version_known b) refl ∙ sym (head_cons b l false)
  where
    r : Bool → HeadRead → HeadRead
    r t h = pick t h (head_refused 20 0)

    go : (t : Bool) → version_known b ≡ t → r t (head_by b (l ++ v) (framed_of (l ++ v) last)) ≡ r t (head_by b l (framed_of l false))
    go false e = refl
    go true e =
        let same : head_piece (b ∷ l) false ≡ head_by b l (framed_of l false) = head_cons b l false ∙ rw e in
        shown (head_by b) l v last refl (λ body kind a. first_front l v a b)
        (λ q. false_true (sym m ∙ ap head_waits same ∙ ap (λ f. head_waits (head_by b l f)) q))

-- ---- a window of 65,537 bytes, and one more with the version byte, is never answered More: a body has at most 65,535

full : (w : List ℕ) (last : Bool) → Bytes w → 65537 ≤ length w → framed_of w last ≡ framed.More → ⊥
full w last b h e = go (front w)
  where
    small : body_length w < 65536
    small =
        let long : length (take 2 w) ≡ 2 = length-take-le 2 w (omega arith) in
        omega (arith, rw long at (number_small (take 2 w) (bytes_take 2 w b)))

    go : Front w → ⊥
    go (scrap k) = omega arith
    go (zero_length t z) = let q = sym e ∙ framed_zero w last t z in let n : ◌≡◌ {A = ℕ} 0 1 = cc in omega arith
    go (short t z k) = omega (arith, small)
    go (whole a) = let q = sym e ∙ framed_whole w last a in let n : ◌≡◌ {A = ℕ} 0 1 = cc in omega arith

pub next_full : (at : ℕ) (w : List ℕ) (last : Bool) → Bytes w → 65537 ≤ length w → wants_more (next_piece at w last) ≡ false
unfolding next_piece
next_full at w last b h = next_known at w (framed_of w last) (full w last b h)

pub head_full : (w : List ℕ) (last : Bool) → Bytes w → 65538 ≤ length w → head_waits (head_piece w last) ≡ false
head_full [] last h n = absurd (omega arith)
head_full (b ∷ l) last h n =
    ap head_waits (head_cons b l last)
    ∙ pick_either (λ (r : HeadRead). head_waits r ≡ false) (version_known b)
    (λ e. head_known b l (framed_of l last) (full l last h.1 (omega arith))) (λ e. refl)

-- ---- what an answer of the whole rest says: it is not More, and what it took lies within

abbrev Within : List ℕ → NextRead → Type 0
Within l r = (wants_more r ≡ false) × (taken r ≤ length l) × (reading_goes_on r ≡ true → 0 < taken r)

pub read_within : (at : ℕ) (l : List ℕ) → Within l (next_read at l)
read_within at l = go (next_read at l) (next_says at l)
  where
    go : (r : NextRead) → Says at l r → Within l r
    go (Ok (Packet p c)) s = (refl, (packet_here l s.0).sixteen, λ g. omega arith)
    go (Ok End) s = (refl, omega arith, λ g. absurd (false_true g))
    go (Ok More) s = absurd s
    go (Err r) s = (refl, omega arith, λ g. absurd (false_true g))

pub head_answers : (s : List ℕ) → head_waits (head_read s) ≡ false
head_answers s = go (head_read s) (head_says s)
  where
    go : (h : HeadRead) → SaysHead s h → head_waits h ≡ false
    go (Ok (Some r)) w = refl
    go (Ok None) w = absurd w
    go (Err r) w = refl
