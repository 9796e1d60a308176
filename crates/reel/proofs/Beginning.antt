-- The start of a capture: set-up, the offset and the header; what an answer to the first window says of the whole capture. By these in order.
use Rattle.std.specs.Prelude.{◌≡◌, ◌++◌, ◌+◌, ◌≤◌, ◌<◌, Err, Ok, Some, None}
use Rattle.laws.specs.Kit.{refl, sym, ap, ◌∙◌, Bool, true, List, [], append-nil, ℕ, arith, ltb, leb}
use Rattle.laws.specs.Kit.{eqb, length, take, drop, length-append, length-drop, drop-append-le, take-append-le, le-leb, lt-leb, leb-true, leb-false}
use Rattle.laws.specs.Kit.{eqb-true, eqb-false, ne_eqb, eq-eqb, le-ltb, lt-ltb, ltb-true, ltb-false}
use Rattle.laws.proofs.Choose.{pick_either, false_true}
use Rattle.endian.specs.declared.Order.{Order}
use Rattle.endian.specs.declared.Order.TheVariants.{Big, Little}
use Rattle.endian.specs.Number.{number_of}
use Rattle.endian.specs.Order.{turned, number_by}
use Rattle.text.specs.Lines.{refusal_line}
use Rattle.capture.specs.Step.{format_in, Opened}
use Rattle.capture.specs.Paper.{header_bytes, Header, capture, unknown, linked_by, magic_by, header_of, records_in}
use Rattle.capture.specs.Step.{opened_by, opened_of, rest_from}
use Rattle.timing.specs.declared.State.{State}
use Rattle.timing.specs.Answers.{SetUp}
use Rattle.timing.specs.Step.{stated_of, stated_refusal, rules_of, fresh_of}
use Rattle.timing.specs.Answers.{stated_up}
use Rattle.timing.proofs.Stating.{stated_fine}
use Rattle.timing.proofs.InRange.{sound_fresh}
use Rattle.reel.specs.declared.Asked.{Asked}
use Rattle.reel.specs.Step.{Threaded, threaded_refused}
use Rattle.reel.specs.Paper.{lines_of, output_by, output_of}
use Rattle.reel.specs.Step.{open_by, ready_of, set_up_by, begin_of, rest_by, Stands}

-- ---- each way out of the code

module _ (a : Asked) (w : List ℕ) (last : Bool) {u : SetUp} (e : u ≡ stated_up a.stated) where
  pub begins_refused : {number : ℕ} → u ≡ Err number → threaded_refused number ≡ begin_of a w last
  unfolding begin_of
  begins_refused f = rw (← e, f)

  module _ {s : State} (f : u ≡ Ok s) where
    pub begins_33 : 99 < a.offset → threaded_refused 33 ≡ begin_of a w last
    unfolding begin_of
    begins_33 h = rw (← e, f, lt-leb a.offset 99 h)

    pub begins_ready : a.offset ≤ 99 → ready_of a s w last ≡ begin_of a w last
    unfolding begin_of
    begins_ready h = rw (← e, f, le-leb a.offset 99 h)

-- ---- the header of a window is the file's

module _ (w v : List ℕ) (long : header_bytes ≤ length w) where
  word_front : (o : Order) (i : ℕ) → i + 4 ≤ header_bytes → number_by o 4 (w ++ v) i ≡ number_by o 4 w i
  word_front o i h =
      let same : take 4 (drop i (w ++ v)) ≡ take 4 (drop i w) =
      ap (take 4) (drop-append-le i w v (omega arith)) ∙ take-append-le 4 (drop i w) v (rw length-drop (omega arith)) in
      ap (λ (l : List ℕ). number_of (turned o l)) same

  header_front : header_of (w ++ v) ≡ header_of w
  unfolding header_of magic_by linked_by
  header_front =
      rw (
        le-ltb (length (w ++ v)) header_bytes (omega (arith, length-append w v)),
        le-ltb (length w) header_bytes long,
        word_front Big 0 (omega arith),
        word_front Little 0 (omega arith),
        word_front Big 20 (omega arith),
        word_front Little 20 (omega arith),
      )

header_short : (w : List ℕ) → length w < header_bytes → header_of w ≡ unknown
unfolding header_of
header_short w h = rw (lt-ltb (length w) header_bytes h)

-- ---- what an answer to the window w says of the file w ++ v

abbrev pub Tells : Asked → List ℕ → List ℕ → Threaded → Type 0
Tells a w v (Ok None) = Unit
Tells a w v (Err r) = output_of a (w ++ v) ≡ refusal_line r 0
Tells a w v (Ok (Some r)) = Stands r × (header_bytes ≤ length w) × (output_of a (w ++ v) ≡ rest_by r (drop header_bytes w ++ v))

module _ (a : Asked) (w v : List ℕ) (last : Bool) (l : last ≡ true → v ≡ []) where
  module _ (fine : stated_refusal a.stated ≡ 0) (h : a.offset ≤ 99) where
    by_header : {k : Header} → header_of (w ++ v) ≡ k → output_of a (w ++ v) ≡ output_by a k (w ++ v)
    unfolding output_of
    by_header e = rw (eq-eqb (stated_refusal a.stated) 0 fine, le-leb a.offset 99 h, e)

    opens_tells : (long : header_bytes ≤ length w) (k : Header) → header_of w ≡ k
        → Tells a w v (open_by a (fresh_of (stated_of a.stated)) (opened_by (format_in k)))
    unfolding rest_from
    opens_tells long (capture f) e = (
      record { sound = sound_fresh (stated_of a.stated) (stated_fine a.stated fine).1; records = omega arith; skipped = omega arith },
      long,
      by_header (header_front w v long ∙ e)
          ∙ ap (λ (m : List ℕ). lines_of (rules_of (stated_of a.stated)) (fresh_of (stated_of a.stated)) 0 0
          (records_in (record { format = f; port = a.port; offset = a.offset }) m)) (drop-append-le header_bytes w v long),
    )
    opens_tells long unknown e = by_header (header_front w v long ∙ e)

    ready_tells : Tells a w v (ready_of a (fresh_of (stated_of a.stated)) w last)
    unfolding ready_of opened_of
    ready_tells =
        pick_either (λ (o : Opened). Tells a w v (open_by a (fresh_of (stated_of a.stated)) o)) (ltb (length w) header_bytes)
        (λ e. pick_either (λ (o : Opened). Tells a w v (open_by a (fresh_of (stated_of a.stated)) o)) last
        (λ t. by_header (ap (λ (x : List ℕ). header_of (w ++ x)) (l t) ∙ ap header_of (append-nil w)
        ∙ header_short w (ltb-true (length w) header_bytes e)))
        (λ t. tt))
        (λ e. opens_tells (ltb-false (length w) header_bytes e) (header_of w) refl)

  offset_tells : stated_refusal a.stated ≡ 0 → 99 < a.offset → Tells a w v (threaded_refused 33)
  unfolding output_of
  offset_tells fine h = rw (eq-eqb (stated_refusal a.stated) 0 fine, lt-leb a.offset 99 h)

  set_up_tells : (stated_refusal a.stated ≡ 0 → ⊥) → Tells a w v (threaded_refused (stated_refusal a.stated))
  unfolding output_of
  set_up_tells n = rw (ne_eqb (stated_refusal a.stated) 0 n)

  pub begin_tells : Tells a w v (begin_of a w last)
  unfolding begin_of stated_up
  begin_tells =
      pick_either (λ (u : SetUp). Tells a w v (set_up_by a w last u)) (eqb (stated_refusal a.stated) 0)
      (λ e.
      let fine = eqb-true (stated_refusal a.stated) 0 e in
      pick_either (Tells a w v) (leb a.offset 99)
      (λ f. ready_tells fine (leb-true a.offset 99 f))
      (λ f. offset_tells fine (leb-false a.offset 99 f)))
      (λ e. set_up_tells (eqb-false (stated_refusal a.stated) 0 e))

-- where no more will come, and where the header is shown, the start of a capture is answered
abbrev pub Answered : Threaded → Type 0
Answered (Ok None) = ⊥
Answered (Err r) = Unit
Answered (Ok (Some r)) = Unit

pub begin_answered : (a : Asked) (w : List ℕ) (last : Bool) → (length w < header_bytes → last ≡ true) → Answered (begin_of a w last)
unfolding begin_of ready_of opened_of
begin_answered a w last h = go (stated_up a.stated)
  where
    headed : (s : State) (k : Header) → Answered (open_by a s (opened_by (format_in k)))
    headed s (capture f) = tt
    headed s unknown = tt

    go : (u : SetUp) → Answered (set_up_by a w last u)
    go (Err number) = tt
    go (Ok s) =
        pick_either Answered (leb a.offset 99)
        (λ f. pick_either (λ (o : Opened). Answered (open_by a s o)) (ltb (length w) header_bytes)
        (λ e. pick_either (λ (o : Opened). Answered (open_by a s o)) last (λ t. tt)
        (λ t. false_true (sym t ∙ h (ltb-true (length w) header_bytes e))))
        (λ e. headed s (header_of w)))
        (λ f. tt)
