-- A call's number and place by what is found in turn: the words, the range, the scan, the room. So they depend on how many numbers are
-- lent, and not on what they are.
use Rattle.std.specs.Prelude.{◌≡◌, ◌⊎◌, ◌&&◌, ◌*◌, ◌/◌, ◌≤◌, ◌<◌, Err, Ok, None, Some}
use Rattle.laws.specs.Kit.{refl, sym, ap, ◌∙◌, inl, inr, Bool, true, false, List, ℕ, arith}
use Rattle.laws.specs.Kit.{le-div_iff_mul-le, div-lt_iff_lt-mul, leb, ℤ, pos, length, take, replicate, length-replicate, le-leb, lt-leb}
use Rattle.laws.specs.Choose.{pick}
use Rattle.refusal.specs.Told.{Numbered}
use Rattle.packet.specs.Paper.{Scanned}
use Rattle.packet.specs.declared.Packet.{Packet}
use Rattle.packet.specs.Paper.{packets}
use Rattle.packet.specs.Step.{scanned_of}
use Rattle.timing.specs.declared.State.{State}
use Rattle.frame.specs.Step.{row_width}
use Rattle.timing.specs.Answers.{summary_width}
use Rattle.timing.specs.Step.{rules_of, state_after}
use Rattle.timing.specs.Range.{in_range}
use Rattle.timing.specs.Feed.{Outcome, refused_by, accepted_as, by_scan, feed_of}
use Rattle.probe.specs.Words.{Held, state_words, state_held_by}
use Rattle.probe.specs.Calls.{refused, accepted, by_fed, by_held, call_of, answer, asked, asked_of}

-- ---- by what is found

abbrev by_room : (room space packets closed : ℕ) → Numbered
by_room room space packets closed = pick (leb (closed * row_width) room && leb summary_width space) (answer 0 0) (answer 15 packets)

abbrev by_scanned : (room space packets : ℕ) → Scanned → Numbered
by_scanned room space packets (Ok closed) = by_room room space packets closed
by_scanned room space packets (Err r) = answer r.number r.place

module _ (ts ss ms : List ℕ) where
  abbrev scanned : State → Scanned
  scanned s = scanned_of s.past s.frames.begun ts ss ms

  abbrev answered : (room space : ℕ) → Held → Numbered
  answered room space (Some s) = pick (in_range s) (by_scanned room space s.past.packets (scanned s)) (answer 9 0)
  answered room space None = answer 9 0

  -- what `feed` answers of a scan, as the call tells it
  abbrev fed : (words : List ℕ) (rows : List ℤ) (out : List ℕ) (s : State) → Outcome → Numbered
  fed words rows out s o = asked (by_fed words rows out s o.answer o.rows)

  told_by : (words : List ℕ) (rows : List ℤ) (out : List ℕ) → asked (call_of words rows out ts ss ms)
      ≡ answered (length rows) (length out) (state_held_by (take state_words words))
  unfolding call_of feed_of
  told_by words rows out = go (state_held_by (take state_words words))
    where
      room : (place : ℕ) (t : State) (after : List ℤ) (b : Bool)
          → asked (pick b (accepted words rows out t after) (refused words rows out 15 place)) ≡ pick b (answer 0 0) (answer 15 place)
      room place t after true = refl
      room place t after false = refl

      enough : (s : State) (l : List Packet) (a : Bool)
          → fed words rows out s (pick a (accepted_as s rows l) (refused_by s rows 15 s.past.packets))
          ≡ pick (a && leb summary_width (length out)) (answer 0 0) (answer 15 s.past.packets)
      enough s l true =
          room s.past.packets (state_after (rules_of s.numbers) s l) (accepted_as s rows l).rows (leb summary_width (length out))
      enough s l false = refl

      found : (s : State) (b : Bool) (x : Scanned)
          → fed words rows out s (pick b (by_scan s rows x (packets ts ss ms)) (refused_by s rows 9 0))
          ≡ pick b (by_scanned (length rows) (length out) s.past.packets x) (answer 9 0)
      found s true (Ok closed) = enough s (packets ts ss ms) (leb (closed * row_width) (length rows))
      found s true (Err r) = refl
      found s false x = refl

      go : (h : Held) → asked (by_held words rows out ts ss ms h) ≡ answered (length rows) (length out) h
      go None = refl
      go (Some s) = found s (in_range s) (scanned s)

  asked_by : (words : List ℕ) (room space : ℕ) → asked_of words ts ss ms room space ≡ answered room space (state_held_by (take state_words words))
  unfolding asked_of
  asked_by words room space =
      told_by words (replicate room (pos 0)) (replicate space 0)
      ∙ rw (length-replicate room (pos 0), length-replicate {A = ℕ} space 0)

  -- so the answer to zeros is the answer to any numbers, if they are as many
  pub by_lengths : (words : List ℕ) (rows : List ℤ) (out : List ℕ) → asked_of words ts ss ms (length rows) (length out)
      ≡ asked (call_of words rows out ts ss ms)
  by_lengths words rows out = asked_by words (length rows) (length out) ∙ sym (told_by words rows out)

  -- ---- one law for each way out

  module _ (words : List ℕ) (room space : ℕ) where
    by_held_lem : {h : Held} → h ≡ state_held_by (take state_words words) → answered room space h ≡ asked_of words ts ss ms room space
    by_held_lem e = ap (answered room space) e ∙ sym (asked_by words room space)

    pub asked_nothing : {h : Held} → h ≡ state_held_by (take state_words words) → h ≡ None → answer 9 0 ≡ asked_of words ts ss ms room space
    asked_nothing e f = by_held_lem (sym f ∙ e)

    module _ {h : Held} {s : State} (e : h ≡ state_held_by (take state_words words)) (f : h ≡ Some s) where
      known : answered room space (Some s) ≡ asked_of words ts ss ms room space
      known = by_held_lem (sym f ∙ e)

      pub asked_9 : in_range s ≡ false → answer 9 0 ≡ asked_of words ts ss ms room space
      asked_9 i = sym (rw i) ∙ known

      module _ {x : Scanned} (i : in_range s ≡ true) (g : x ≡ scanned s) where
        in_turn : by_scanned room space s.past.packets x ≡ asked_of words ts ss ms room space
        in_turn = sym (rw (i, ← g)) ∙ known

        pub asked_refused : {r : Numbered} → x ≡ Err r → answer r.number r.place ≡ asked_of words ts ss ms room space
        asked_refused q = sym (rw q) ∙ in_turn

        module _ {closed : ℕ} (q : x ≡ Ok closed) where
          fine : by_room room space s.past.packets closed ≡ asked_of words ts ss ms room space
          fine = sym (rw q) ∙ in_turn

          pub asked_short : (room / row_width < closed) ⊎ (space < summary_width)
              → answer 15 s.past.packets ≡ asked_of words ts ss ms room space
          asked_short h = sym (go h) ∙ fine
            where
              go : (room / row_width < closed) ⊎ (space < summary_width)
                  → by_room room space s.past.packets closed ≡ answer 15 s.past.packets
              go (inl l) =
                  let few : room < closed * row_width = (div-lt_iff_lt-mul {k = row_width} {x = room} {y = closed} (omega arith)).0 l in
                  rw (lt-leb (closed * row_width) room few)
              go (inr l) = rw (lt-leb summary_width space l) (either (leb (closed * row_width) room))
                where
                  either : (b : Bool) → pick (b && false) (answer 0 0) (answer 15 s.past.packets) ≡ answer 15 s.past.packets
                  either true = refl
                  either false = refl

          pub asked_done : closed ≤ room / row_width → summary_width ≤ space → answer 0 0 ≡ asked_of words ts ss ms room space
          asked_done l k =
              let enough : closed * row_width ≤ room = (le-div_iff_mul-le {k = row_width} {x = closed} {y = room} (omega arith)).0 l in
              sym (rw (le-leb (closed * row_width) room enough, le-leb summary_width space k)) ∙ fine
