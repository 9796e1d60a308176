-- What the reader answers, in the words of the rules: a predicate on the answer, proved once for every answer. By what stands in front.
use Rattle.std.specs.Prelude.{◌≡◌, ◌∷◌, ◌≤◌, ◌<◌, Ok, Err, Some, None}
use Rattle.laws.specs.Kit.{refl, sym, ap, subst, ◌∙◌, Bool, true, false, List, [], ℕ, arith, ℕ_discrete, eqb, length}
use Rattle.laws.specs.Kit.{drop}
use Rattle.laws.specs.Choose.{pick}
use Rattle.laws.proofs.Choose.{pick_either, second, before}
use Rattle.limits.specs.declared.Parameters.{Parameters}
use Rattle.packet.specs.Step.{nothing}
use Rattle.record.specs.declared.Cursor.{Cursor}
use Rattle.record.specs.declared.Framed.{Framed}
use Rattle.record.specs.Step.{HeadRead, head_refused, next_packet}
use Rattle.record.specs.Step.{NextRead}
use Rattle.record.specs.declared.Next.TheVariants.{Packet, End, More}
use Rattle.record.specs.Paper.{packet_bytes, head_bytes, numbers_refusal}
use Rattle.record.specs.Paper.{version_known, version_of, version_fits, body_length, kind_of, is_parameters, kind_length, parameters_at}
use Rattle.record.specs.Paper.{format_refusal}
use Rattle.record.specs.Paper.{Heading, heading, parameters_refusal, packets_in, unread, read, reading_of}
use Rattle.record.specs.Step.{cursor, after, packet_of, step_over, framed_of, Whole, first_of, head_by, head_piece, head_read}
use Rattle.record.specs.Step.{whole_of, next_by, next_piece, next_read}
use Rattle.record.proofs.Format.{Front, scrap, zero_length, short, whole, front, framed_nothing, framed_byte, framed_zero}
use Rattle.record.proofs.Format.{framed_short, framed_whole, lone_23, scrap_21, zero_21, short_21, there}
use Rattle.record.proofs.Ways.{other_version, head_cons}
use Rattle.record.proofs.Reading.{parameters_here, heading_of, reading_20, reading_stop, reading_go}

-- ---- after the head

-- what an answer says of the rest of the file: a packet whose format is not refused, nothing left, or the number of the format with
-- the record's own offset, and how far behind it the next one begins, which is no further than the end
abbrev pub Says : ℕ → List ℕ → NextRead → Type 0
Says at l (Ok (Packet p c)) = (format_refusal false l ≡ 0) × (packet_of l (after at packet_bytes) ≡ next_packet p c)
Says at l (Ok End) = length l ≡ 0
Says at l (Ok More) = ⊥
Says at l (Err r) =
    (0 < length l) × (format_refusal false l ≡ r.number) × (0 < r.number) × (r.offset ≡ at) × (r.size ≡ step_over r.number l) × (r.size ≤ length l)

pub next_says : (at : ℕ) (l : List ℕ) → Says at l (next_read at l)
unfolding next_piece whole_of
next_says at l = go (front l) (ℕ_discrete (length l) 0)
  where
    by : Framed → Type 0
    by f = Says at l (next_by at l f)

    of_whole : Whole (body_length l) (kind_of l) l → Says at l (whole_of at (body_length l) (kind_of l) l)
    of_whole w =
        pick_either (Says at l) (eqb (body_length l) (kind_length (kind_of l)))
        (λ e. pick_either (Says at l) (is_parameters (kind_of l))
        (λ p. (omega (arith, w.all_there), there false l w ∙ rw (e, p), omega arith, refl, refl, w.all_there))
        (λ p. (there false l w ∙ rw (e, p), refl)))
        (λ e. (omega (arith, w.all_there), there false l w ∙ rw e, omega arith, refl, refl, w.all_there))

    go : Front l → Dec (length l ≡ 0) → by (framed_of l true)
    go (scrap h) (yes e) = subst by (sym (framed_nothing l e)) e
    go (scrap h) (no n) = subst by (sym (framed_byte l n h)) (omega arith, scrap_21 false l (omega arith) h, omega arith, refl, refl, omega arith)
    go (zero_length t e) d = subst by (sym (framed_zero l true t e)) (omega arith, zero_21 false l t e, omega arith, refl, refl, omega arith)
    go (short t b k) d = subst by (sym (framed_short l true t b k)) (omega arith, short_21 false l t b k, omega arith, refl, refl, omega arith)
    go (whole w) d = subst by (sym (framed_whole l true w)) (of_whole w)

-- ---- the head

-- a version that is known, and parameters that the format accepts, of the kind that stands there
pub record Stood (s : List ℕ) (version kind : ℕ) (parameters : Parameters) (c : Cursor) : Type 0 where
  pub version_is : version ≡ version_of s
  pub kind_is : kind ≡ kind_of (drop 1 s)
  pub next_19 : c ≡ cursor head_bytes
  pub nineteen : head_bytes ≤ length s
  pub version_is_known : version_fits s ≡ true
  pub format_fits : format_refusal true (drop 1 s) ≡ 0
  pub parameters_are : parameters ≡ parameters_at (drop 1 s)

-- what an answer says of the file: it stands so, or this is what it reads as
abbrev pub SaysHead : List ℕ → HeadRead → Type 0
SaysHead s (Ok (Some r)) = Stood s r.version r.kind r.parameters r.next
SaysHead s (Ok None) = ⊥
SaysHead s (Err r) = reading_of s ≡ unread r.number r.place

module _ (b : ℕ) (l : List ℕ) (v : version_known b ≡ true) where
  stops : (n : ℕ) → format_refusal true l ≡ n → 0 < n → reading_of (b ∷ l) ≡ unread n 1
  stops n e p = reading_stop (b ∷ l) n v (before _ _ (rw e p) ∙ e) p

  stood : format_refusal true l ≡ 0 → Stood (b ∷ l) b (kind_of l) (parameters_at l) (cursor head_bytes)
  stood f =
      let here = parameters_here l f in
      record {
        version_is = refl;
        kind_is = refl;
        next_19 = refl;
        nineteen = omega (arith, here.eighteen);
        version_is_known = v;
        format_fits = f;
        parameters_are = refl;
      }

  -- what follows the version byte
  first_says : SaysHead (b ∷ l) (head_by b l (framed_of l true))
  unfolding first_of
  first_says = go (front l) (ℕ_discrete (length l) 0)
    where
      by : Framed → Type 0
      by f = SaysHead (b ∷ l) (head_by b l f)

      of_whole : Whole (body_length l) (kind_of l) l → SaysHead (b ∷ l) (first_of b (body_length l) (kind_of l) l)
      of_whole w =
          pick_either (SaysHead (b ∷ l)) (eqb (body_length l) (kind_length (kind_of l)))
          (λ e. pick_either (SaysHead (b ∷ l)) (is_parameters (kind_of l))
          (λ p. stood (there true l w ∙ rw (e, p)))
          (λ p. stops 23 (there true l w ∙ rw (e, p)) (omega arith)))
          (λ e. stops 22 (there true l w ∙ rw e) (omega arith))

      go : Front l → Dec (length l ≡ 0) → by (framed_of l true)
      go (scrap h) (yes e) = subst by (sym (framed_nothing l e)) (stops 23 (lone_23 l e) (omega arith))
      go (scrap h) (no n) = subst by (sym (framed_byte l n h)) (stops 21 (scrap_21 true l (omega arith) h) (omega arith))
      go (zero_length t e) d = subst by (sym (framed_zero l true t e)) (stops 21 (zero_21 true l t e) (omega arith))
      go (short t c k) d = subst by (sym (framed_short l true t c k)) (stops 21 (short_21 true l t c k) (omega arith))
      go (whole w) d = subst by (sym (framed_whole l true w)) (of_whole w)

pub head_says : (s : List ℕ) → SaysHead s (head_read s)
unfolding head_piece
head_says [] = reading_20 [] (sym (other_version 0 (λ e. omega arith) (λ e. omega arith)))
head_says (b ∷ l) = subst (SaysHead (b ∷ l)) (sym (head_cons b l true)) (go (version_known b) refl)
  where
    go : (t : Bool) → version_known b ≡ t → SaysHead (b ∷ l) (pick t (head_by b l (framed_of l true)) (head_refused 20 0))
    go true v = first_says b l v
    go false v = reading_20 (b ∷ l) v

-- and what a file with such a head reads as: set-up refuses it, or its packets follow
module _ {s : List ℕ} {version kind : ℕ} {parameters : Parameters} {c : Cursor} (h : Stood s version kind parameters c) where
  -- what it tells before its packets
  heading_is : heading_of s ≡ heading version kind parameters
  heading_is = rw (h.version_is, h.kind_is, h.parameters_are)

  set_up_is : parameters_refusal (version_of s) (drop 1 s) ≡ numbers_refusal (heading version kind parameters)
  set_up_is = second _ _ h.format_fits ∙ ap numbers_refusal heading_is

  pub reads_refused : (n : ℕ) → numbers_refusal (heading version kind parameters) ≡ n → 0 < n → reading_of s ≡ unread n 1
  reads_refused n e p = reading_stop s n h.version_is_known (set_up_is ∙ e) p

  pub reads_packets : numbers_refusal (heading version kind parameters) ≡ 0
      → reading_of s ≡ read (heading version kind parameters) (packets_in nothing head_bytes (drop head_bytes s))
  reads_packets e =
      reading_go s h.version_is_known (set_up_is ∙ e)
      ∙ ap (λ (x : Heading). read x (packets_in nothing head_bytes (drop head_bytes s))) heading_is
