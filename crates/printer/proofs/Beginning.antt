-- The start of a file, of a window that shows it: what is refused there is the file's refusal, and from the walk that begins there all
-- of the file's output is still to come. By what the head says of the file.
use Rattle.std.specs.Prelude.{◌≡◌, ◌++◌, ◌≤◌, ◌<◌, Err, Ok, Some, None}
use Rattle.laws.specs.Kit.{refl, sym, ap, subst, ◌∙◌, Bool, true, false, List, [], append-nil, ℕ, arith, eqb, length}
use Rattle.laws.specs.Kit.{drop, drop-append-le, eqb-true, eqb-false}
use Rattle.laws.proofs.Choose.{pick_either, false_true}
use Rattle.packet.specs.Step.{nothing}
use Rattle.text.specs.Lines.{refusal_line}
use Rattle.record.specs.declared.Cursor.{Cursor}
use Rattle.limits.specs.declared.Parameters.{Parameters}
use Rattle.limits.specs.declared.Profile.{Profile}
use Rattle.limits.specs.Paper.{set_up_refusal}
use Rattle.limits.proofs.Editions.{in_one}
use Rattle.record.specs.Step.{HeadRead, head_ready, head_refused, head_piece, head_read}
use Rattle.record.specs.declared.FileNumbers.{FileNumbers}
use Rattle.timing.specs.declared.StreamNumbers.{StreamNumbers}
use Rattle.record.specs.Paper.{heading, head_bytes, packets_in}
use Rattle.record.specs.Walk.{numbers_of}
use Rattle.record.specs.Pieces.{head_waits}
use Rattle.record.proofs.Saying.{Stood, SaysHead, head_says, reads_refused, reads_packets}
use Rattle.record.proofs.InPieces.{last_head, piece_head, head_alone}
use Rattle.timing.specs.Answers.{SetUp, set_up_as}
use Rattle.timing.specs.Step.{of_profile, rules_of, fresh_of}
use Rattle.timing.proofs.InRange.{sound_fresh}
use Rattle.printer.specs.Step.{Opened, opened_refused, opened_ready, ready_by, ready_of, head_by, begin_of}
use Rattle.printer.specs.Paper.{lines_of, stream_of, output_by, rest_of, output_of}
use Rattle.printer.specs.Drive.{Stands, rest_from}

-- what an answer to the window w says of the file w ++ v
abbrev pub Tells : List ℕ → List ℕ → Opened → Type 0
Tells w v (Ok None) = Unit
Tells w v (Err r) = output_of (w ++ v) ≡ refusal_line r.number r.place
Tells w v (Ok (Some walk)) = Stands walk × (output_of (w ++ v) ≡ rest_from walk (drop head_bytes w ++ v))

module _ (w v : List ℕ) (last : Bool) (l : last ≡ true → v ≡ []) where
  -- what the window shows of the head is the whole file's head
  whole : (h : HeadRead) → head_piece w last ≡ h → head_waits h ≡ false → SaysHead (w ++ v) h
  whole h e m = subst (SaysHead (w ++ v)) (sym (go last l e) ∙ e) (head_says (w ++ v))
    where
      go : (b : Bool) → (b ≡ true → v ≡ []) → head_piece w b ≡ h → head_piece w b ≡ head_read (w ++ v)
      go true k f = rw (k refl) (ap head_read (sym (append-nil w)))
      go false k f = piece_head w v (ap head_waits f ∙ m)

  module _ {version kind : ℕ} {x : Parameters} {c : Cursor} (e : head_piece w last ≡ head_ready version kind x c) where
    here : Stood (w ++ v) version kind x c
    here = whole (head_ready version kind x c) e refl

    nineteen : head_bytes ≤ length w
    nineteen = (subst (SaysHead w) (sym (head_alone w last (ap head_waits e)) ∙ e) (head_says w)).nineteen

    -- what it sets up with, and its parameters
    abbrev stream : StreamNumbers
    stream = stream_of (heading version kind x)

    abbrev numbers : Parameters
    numbers = stream.parameters

    abbrev profile : Profile
    profile = stream.profile

    fresh_tells : set_up_refusal profile numbers ≡ 0 → Tells w v (opened_ready (record { at = c; state = fresh_of stream }))
    unfolding output_of rest_of
    fresh_tells fine =
        let rules = rules_of stream in
        let state = fresh_of stream in (
          record { sound = sound_fresh stream (in_one profile numbers ∙ fine); offset = ap (λ (d : Cursor). d.at) here.next_19 },
          ap output_by (reads_packets here fine)
              ∙ ap (λ (m : List ℕ). lines_of rules state (packets_in nothing head_bytes m)) (drop-append-le head_bytes w v nineteen)
              ∙ ap (λ (d : Cursor). lines_of rules state (packets_in nothing d.at (drop head_bytes w ++ v))) (sym here.next_19),
        )

    refused_tells : 0 < set_up_refusal profile numbers → Tells w v (opened_refused (set_up_refusal profile numbers) 1)
    unfolding output_of
    refused_tells some = ap output_by (reads_refused here (set_up_refusal profile numbers) refl some)

    set_up_tells : Tells w v (ready_by (set_up_as stream) c)
    unfolding set_up_as
    set_up_tells =
        rw (in_one profile numbers)
        (pick_either (λ (a : SetUp). Tells w v (ready_by a c)) (eqb (set_up_refusal profile numbers) 0)
        (λ g. fresh_tells (eqb-true (set_up_refusal profile numbers) 0 g))
        (λ g. refused_tells (some (set_up_refusal profile numbers) (eqb-false (set_up_refusal profile numbers) 0 g))))
      where
        some : (n : ℕ) → (n ≡ 0 → ⊥) → 0 < n
        some n h = omega arith

  pub begin_tells : Tells w v (begin_of w last)
  unfolding begin_of ready_of output_of
  begin_tells = go (head_piece w last) refl
    where
      go : (h : HeadRead) → head_piece w last ≡ h → Tells w v (head_by h)
      go (Ok (Some r)) e = set_up_tells e
      go (Ok None) e = tt
      go (Err r) e = ap output_by (whole (head_refused r.number r.place) e refl)

-- where no more will come, the start of a file is answered
abbrev pub Answered : Opened → Type 0
Answered (Ok None) = ⊥
Answered (Err r) = Unit
Answered (Ok (Some walk)) = Unit

ready_answered : (x : FileNumbers) (c : Cursor) → Answered (ready_of x c)
unfolding ready_of
ready_answered x c = go (set_up_as (of_profile x.profile x.parameters))
  where
    go : (a : SetUp) → Answered (ready_by a c)
    go (Ok s) = tt
    go (Err n) = tt

pub head_answered : (w : List ℕ) (last : Bool) → head_waits (head_piece w last) ≡ false → Answered (begin_of w last)
unfolding begin_of
head_answered w last = go (head_piece w last)
  where
    go : (h : HeadRead) → head_waits h ≡ false → Answered (head_by h)
    go (Ok (Some r)) m = ready_answered (numbers_of (heading r.version r.kind r.parameters)) r.next
    go (Ok None) m = absurd (false_true (sym m))
    go (Err r) m = tt

pub begin_answered : (w : List ℕ) → Answered (begin_of w true)
begin_answered w = head_answered w true (last_head w)
