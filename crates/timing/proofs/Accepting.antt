-- What an accepted history is known to be, in the owner's words. The state that feeding it reaches is the declared one, and `as_declared`
-- carries over to it what the crates below show of the declared bucket and the declared frames.
use Rattle.std.specs.Prelude.{◌≡◌, ◌↔◌, ◌∷◌, ◌+◌, ◌-◌, ◌*◌, ◌≤◌, ◌<◌, Ok}
use Rattle.laws.specs.Kit.{refl, sym, ap, subst, ◌∙◌, ⊎_elim, Bool, true, false, List, [], ℕ, suc, arith, ℤ}
use Rattle.std.specs.Prelude.{◌-ℤ◌, ◌*ℤ◌, ◌≤ℤ◌, ◌<ℤ◌}
use Rattle.laws.specs.Kit.{append-nil, pos, neg_ℤ, length, take, drop, drop-length, sets, le-ltb}
use Rattle.laws.proofs.Choose.{false_true}
use Rattle.laws.specs.Climb.{Climbs}
use Rattle.laws.proofs.Climb.{climbs_le}
use Rattle.laws.proofs.Lay.{sets_front}
use Rattle.laws.specs.Count.{count}
use Rattle.grain.specs.Paper.{NextRead}
use Rattle.grain.specs.Paper.{InstantBy}
use Rattle.grain.specs.Carry.{next_after}
use Rattle.limits.specs.Fraction.{Same}
use Rattle.limits.specs.Paper.{sender_class, read_spacing, has_buffer, periods}
use Rattle.limits.specs.Accepted.{Accepted}
use Rattle.limits.proofs.Facts.{spacing}
use Rattle.limits.specs.Exact.{CMaxIs, VrxFullIs, TroIs}
use Rattle.limits.proofs.Exactness.{c_max_is, vrx_full_is, tro_is}
use Rattle.packet.specs.declared.Packet.{Packet}
use Rattle.packet.specs.Paper.{at, declared}
use Rattle.bucket.specs.Paper as bucket
use Rattle.bucket.proofs.Owner as proved_bucket
use Rattle.frame.specs.declared.Row.{Row}
use Rattle.frame.specs.declared.Frames.{Frames}
use Rattle.frame.specs.declared.Buffer.{Buffer}
use Rattle.frame.specs.declared.Buffer.TheVariants.{None, Pass, Broken}
use Rattle.frame.specs.declared.BrokenFrame.{BrokenFrame}
use Rattle.frame.specs.Paper.{begun_at, closes_at, kind_at, number_at, since, InFrame, RowIs, RowBegan, DecidedIs, BufferIs, Dry, SomeLate}
use Rattle.frame.specs.Paper.{arrival, is_none, broken_fails, Fails, BrokenIs, AnswerIs, NextReadIs, next_read_of}
use Rattle.frame.specs.Editions.{FirstBufferIs, FrameFails, NoneClosed, AllFit}
use Rattle.frame.specs.Step.{row_width, row_of, numbers_of}
use Rattle.frame.specs.ByPlace.{marked_time, closed_at, frames_at, rows_at}
use Rattle.frame.proofs.Stretches.{since_is}
use Rattle.frame.proofs.Places.{began_after, began_later, began_next, frame_holds}
use Rattle.frame.proofs.NextReads.{next_by_place, open_answers}
use Rattle.frame.proofs.RowOfFrame.{row_is, offset_follows}
use Rattle.frame.proofs.BufferOfFrames.{buffered_is, buffer_unique, buffer_is, dry_late, late_dry}
use Rattle.frame.proofs.Editions as by_edition
use Rattle.timing.specs.declared.State.{State}
use Rattle.timing.specs.Step.{frame_of, rules_of, fresh_of, state_after, rows_after, numbers}
use Rattle.timing.specs.Answers.{answers_of, verdict_of, apart_number, awaited, next_of}
use Rattle.timing.specs.Feed.{Call, all_of, Accepts, Deals, Rooms}
use Rattle.timing.specs.History.{rows_to, state_at, AcceptedHistory, reached, rows_of_all, plan, frames, arrivals, size, limit}
use Rattle.timing.proofs.Planning.{fine, planned, frame_long, period_all, packets_all}
use Rattle.timing.proofs.Periods.{fpt_within}
use Rattle.timing.proofs.InRange.{sound_fresh, of_sound}
use Rattle.timing.proofs.Scanning.{numbers_length}
use Rattle.timing.proofs.Awaiting.{is_told}
use Rattle.timing.proofs.Declared.{arrivals_climb, arrivals_near, state_declared, rows_declared}
use Rattle.timing.proofs.Dealing.{accepts, deals}
use Rattle.timing.proofs.Stopping.{passes, sound_reached}
use Rattle.timing.proofs.Numbered.{numbers_of_frame}

module _ (h : AcceptedHistory) where
  -- its arrivals never fall
  in_order : Climbs (λ i. (at h.packets i).time) (size h)
  in_order = arrivals_climb h.packets h.closed h.fine

  -- the state reached is the declared one, and so are the rows
  pub state_reached : reached h ≡ state_at h.stream h.packets (size h)
  state_reached = state_declared h.stream h.set_up h.packets in_order

  pub rows_reached : rows_of_all h ≡ rows_to h.stream h.packets (size h)
  rows_reached = rows_declared h.stream h.set_up h.packets in_order

  -- what holds of the declared state holds of the state reached
  pub as_declared : (P : State → Type 0) → P (state_at h.stream h.packets (size h)) → P (reached h)
  as_declared P = subst P (sym state_reached)

  -- ---- its stream numbers

  is_accepted : Accepted h.stream.profile h.stream.parameters
  is_accepted = fine h.stream h.set_up

  long : 0 < frame_of h.stream
  long = omega (arith, frame_long h.stream h.set_up)

  pub limit_exact : CMaxIs (sender_class h.stream.parameters) h.stream.parameters.schedule (frame_of h.stream)
      h.stream.parameters.n (limit h)
  unfolding rules_of
  limit_exact =
      let p = h.stream.parameters in
      c_max_is (frame_of h.stream) p.n long (sender_class p) p.schedule is_accepted.class_fits_schedule

  pub full_exact : VrxFullIs (sender_class h.stream.parameters) h.stream.parameters.maxudp (frame_of h.stream)
      h.stream.parameters.n (plan h).full
  unfolding rules_of
  full_exact =
      let p = h.stream.parameters in
      vrx_full_is (frame_of h.stream) p.n long (sender_class p) p.schedule p.maxudp is_accepted.class_fits_schedule some
    where
      some : 0 < h.stream.parameters.maxudp
      some = ⊎_elim (λ e. omega arith) (λ e. omega arith) is_accepted.maxudp_is_known

  pub tro_exact : TroIs (frame_of h.stream) h.stream.parameters.height h.stream.parameters.tro (plan h).tro
  unfolding rules_of
  tro_exact = let p = h.stream.parameters in tro_is p.rate p.height p.tro

  pub spacing_exact : Same (record { num = (plan h).reads.num; den = (plan h).reads.den })
      (read_spacing h.stream.parameters.schedule (frame_of h.stream) h.stream.parameters.n)
  unfolding rules_of
  spacing_exact = let p = h.stream.parameters in spacing p.schedule (frame_of h.stream) p.n

  -- ---- its bucket

  in_grains : proved_bucket.Ordered (arrivals h)
  in_grains i b = let o = in_order i b in omega arith

  pub drains_are : (k i : ℕ) → k ≤ bucket.drains (arrivals h) i
      ↔ InstantBy (10 * frame_of h.stream) (11 * h.stream.parameters.n) k (bucket.elapsed (arrivals h) i)
  drains_are = proved_bucket.drain_instants (arrivals h) long in_grains

  pub drains_in_run : (a b most : ℕ) → bucket.IsRun (arrivals h) a b → bucket.drains (arrivals h) b ≤ most
      → count (λ k. bucket.drains_run (arrivals h) a b (suc k)) most ≡ bucket.drains (arrivals h) b - bucket.drains (arrivals h) a
  drains_in_run = proved_bucket.drains_of_run (arrivals h) long in_grains

  pub peak_reached : bucket.GreatestExcess (arrivals h) (reached h).bucket.peak
  unfolding state_at
  peak_reached = as_declared (λ s. bucket.GreatestExcess (arrivals h) s.bucket.peak)
      (proved_bucket.peak_greatest (arrivals h) long in_grains (limit h))

  pub network_reached : bucket.NetworkIs (arrivals h) (limit h) (reached h).bucket.network
  unfolding state_at
  network_reached = as_declared (λ s. bucket.NetworkIs (arrivals h) (limit h) s.bucket.network)
      (proved_bucket.network_first (arrivals h) long in_grains (limit h))

  pub conserved : (last : ℕ) → size h ≡ suc last
      → size h ≡ bucket.found (arrivals h) (bucket.drains (arrivals h) last) + (reached h).bucket.level
  unfolding state_at
  conserved last e = as_declared (λ s. size h ≡ bucket.found (arrivals h) (bucket.drains (arrivals h) last) + s.bucket.level)
      (proved_bucket.conservation (arrivals h) long in_grains (limit h) last e)

  -- ---- its frames

  pub packets_reached : (reached h).past.packets ≡ size h
  unfolding state_at
  packets_reached = as_declared (λ s. s.past.packets ≡ size h) refl

  pub frames_reached : (reached h).frames.closed ≡ number_at (frames h) (size h)
  unfolding state_at frames_at
  frames_reached = as_declared (λ s. s.frames.closed ≡ number_at (frames h) (size h)) refl

  -- the row that a packet writes where it closes a frame
  pub row_at : (i : ℕ) → i < size h → closes_at (frames h) i ≡ true
      → (r : Row) × (rows_at (plan h) (frames h) i ≡ r ∷ []) × RowIs (plan h) (frames h) i r
  row_at i b e = (
    row_of (plan h) (number_at (frames h) i) (marked_time (plan h) (frames h) i) (since (frames h) i) (closed_at (plan h) (frames h) i),
    rw e,
    row_is (plan h) (frames h) in_order i b (planned h.stream h.set_up) e,
  )

  pub offset_of_row : (i : ℕ) (r : Row) → RowIs (plan h) (frames h) i r → r.offset ≡ r.fpt -ℤ r.latency
  offset_of_row = offset_follows (plan h) (frames h)

  -- its numbers among those of all the rows, laid into lent ones
  pub numbers_at : (i : ℕ) (r : Row) (lent : List ℤ) → i < size h → rows_at (plan h) (frames h) i ≡ r ∷ []
      → length (numbers (rows_of_all h)) ≤ length lent
      → take row_width (drop (row_width * number_at (frames h) i) (sets lent 0 (numbers (rows_of_all h)))) ≡ numbers_of r
  numbers_at i r lent =
      let There : List Row → Type 0 = λ rows. i < size h → rows_at (plan h) (frames h) i ≡ r ∷ [] → length (numbers rows) ≤ length lent
      → take row_width (drop (row_width * number_at (frames h) i) (sets lent 0 (numbers rows))) ≡ numbers_of r in
      subst There (sym rows_reached) (numbers_of_frame h.stream h.packets i (size h) r lent)

  -- ---- where its frames began

  -- the place that a row tells is where its frame began
  place_is : {i place : ℕ} → RowBegan (plan h) (frames h) i place → since (frames h) i ≡ place
  place_is {i} {place} r = let same : pos (since (frames h) i) ≡ pos place = sym r.is.began ∙ r.told in cc

  pub place_within : (i place : ℕ) → i < size h → RowBegan (plan h) (frames h) i place → (0 < place) × (place ≤ 999999999)
  place_within i place b r =
      let few = (sound_reached h.stream h.set_up h.packets h.closed h.fine).past.few in (
        omega (arith, place_is r, began_after (frames h) i r.closing),
        omega (arith, place_is r, (since_is (frames h) i).within, b, few, packets_reached),
      )

  pub places_grow : (i j a b : ℕ) → i < j → RowBegan (plan h) (frames h) i a → RowBegan (plan h) (frames h) j b → a < b
  places_grow i j a b l r q =
      omega (arith, place_is r, place_is q, (since_is (frames h) i).within, began_later (frames h) i j r.closing l)

  pub places_follow : (i j a b : ℕ) → i < j → ((k : ℕ) → i < k → k < j → closes_at (frames h) k ≡ false)
      → RowBegan (plan h) (frames h) i a → RowBegan (plan h) (frames h) j b → b ≡ suc i
  places_follow i j a b l none r q = sym (place_is q) ∙ began_next (frames h) i j r.closing l none

  pub place_holds : (i place : ℕ) → RowBegan (plan h) (frames h) i place → (k : ℕ) → InFrame (frames h) i k ↔ ((place ≤ k) × (k ≤ i))
  place_holds i place r k =
      subst (λ (s : ℕ). InFrame (frames h) i k ↔ ((s ≤ k) × (k ≤ i))) (place_is r) (frame_holds (frames h) i r.closing k)

  pub buffer_reached : BufferIs (plan h) (frames h) (reached h).frames.buffer
  unfolding state_at frames_at
  buffer_reached = as_declared (λ s. BufferIs (plan h) (frames h) s.frames.buffer)
      (buffer_is (plan h) (planned h.stream h.set_up) (frames h) in_order)

  -- ---- its buffer answer, by the edition

  -- the answer reached is the only one
  reached_is : (b : Buffer) → ((reached h).frames.buffer ≡ b) ↔ BufferIs (plan h) (frames h) b
  reached_is b = (
    λ e. subst (BufferIs (plan h) (frames h)) e buffer_reached,
    λ x. buffer_unique (plan h) (frames h) (reached h).frames.buffer b buffer_reached x,
  )

  -- what is said of an answer that is so is said of the answer reached
  reached_as : {A : Type 0} (b : Buffer) → BufferIs (plan h) (frames h) b ↔ A → ((reached h).frames.buffer ≡ b) ↔ A
  reached_as b x = (λ e. x.0 ((reached_is b).0 e), λ a. (reached_is b).1 (x.1 a))

  -- what the plan asks of its edition is what the stream's edition says
  asks : {n : ℕ} → h.stream.edition ≡ n → broken_fails (plan h).edition ≡ broken_fails n
  unfolding rules_of
  asks e = ap broken_fails e

  -- S12, V13: what the plan says of the buffer is what the stream's profile says
  plan_buffered : {t : Bool} → has_buffer h.stream.profile ≡ t → (plan h).buffered ≡ t
  unfolding rules_of
  plan_buffered e = e

  -- V13: "Its buffer answer is always none"
  pub none_reached : has_buffer h.stream.profile ≡ false → (reached h).frames.buffer ≡ None
  none_reached e = buffer_reached.unjudged (plan_buffered e)

  -- V13: "peak and least 0 for whole frames"
  pub no_levels : has_buffer h.stream.profile ≡ false → (i : ℕ) (r : Row) → kind_at (plan h) (frames h) i ≡ 0
      → RowIs (plan h) (frames h) i r → (r.peak ≡ pos 0) × (r.least ≡ pos 0)
  no_levels e i r k x =
      let none = (x.levels k).unjudged (plan_buffered e) in
      (none.peak, none.least)

  -- where the stream has a buffer
  module _ (b : has_buffer h.stream.profile ≡ true) where
    pub decided_reached : DecidedIs (plan h) (frames h) (reached h).frames.buffer
    decided_reached = buffer_reached.judged (plan_buffered b)

    -- the answer that the frames decide is the one reached
    decided_as : {A : Type 0} (c : Buffer) → DecidedIs (plan h) (frames h) c ↔ A → ((reached h).frames.buffer ≡ c) ↔ A
    decided_as c x =
        let is = buffered_is (plan h) (frames h) (plan_buffered b) c in
        reached_as c (λ y. x.0 (is.0 y), λ a. is.1 (x.1 a))

    pub fails_are : (i : ℕ) → i < size h → Fails (AnswerIs (plan h) (frames h)) i ↔ FrameFails (plan h) (frames h) i
    fails_are = by_edition.fails_are (plan h) (planned h.stream h.set_up) (frames h) in_order (plan_buffered b)

    pub first_edition : h.stream.edition ≡ 1 → (c : Buffer) → BufferIs (plan h) (frames h) c ↔ FirstBufferIs (plan h) (frames h) c
    first_edition e c =
        let is = buffered_is (plan h) (frames h) (plan_buffered b) c in
        let first = by_edition.first_edition (plan h) (frames h) (asks e ∙ by_edition.one_spares) c in
        (λ x. first.0 (is.0 x), λ x. is.1 (first.1 x))

    pub first_reached : h.stream.edition ≡ 1 → FirstBufferIs (plan h) (frames h) (reached h).frames.buffer
    first_reached e = (first_edition e (reached h).frames.buffer).0 buffer_reached

    pub second_none : h.stream.edition ≡ 2 → ((reached h).frames.buffer ≡ None) ↔ NoneClosed (plan h) (frames h)
    second_none e = decided_as None (by_edition.second_none (plan h) (frames h) (asks e ∙ by_edition.two_fails))

    pub second_pass : h.stream.edition ≡ 2 → ((reached h).frames.buffer ≡ Pass) ↔ AllFit (plan h) (frames h)
    second_pass e = decided_as Pass (by_edition.second_pass (plan h) (frames h) (asks e ∙ by_edition.two_fails))

    pub broken_reached : (c : BrokenFrame) → ((reached h).frames.buffer ≡ Broken c)
        ↔ ((i : ℕ) × (i < size h) × BrokenIs (plan h) (frames h) i c × ((k : ℕ) → k < i → Fails (AnswerIs (plan h) (frames h)) k → ⊥))
    broken_reached c = decided_as (Broken c) (by_edition.broken_is (plan h) (frames h) c)

    pub dry_if_late : (i : ℕ) → i < size h → kind_at (plan h) (frames h) i ≡ 0
        → Dry (plan h) (frames h) (since (frames h) i) ↔ SomeLate (plan h) (frames h) (since (frames h) i)
    dry_if_late i l k =
        let sound = planned h.stream h.set_up in (
          dry_late (plan h) sound (frames h) in_order (plan_buffered b) i l k,
          λ w. late_dry (plan h) sound (frames h) in_order (plan_buffered b) i l k w.0 w.1 w.2,
        )

  -- V12: by edition 1 the new case is never reached, whatever the profile
  pub never_broken : h.stream.edition ≡ 1 → (c : BrokenFrame) → (reached h).frames.buffer ≡ Broken c → ⊥
  never_broken e c r = go (has_buffer h.stream.profile) refl
    where
      go : (t : Bool) → has_buffer h.stream.profile ≡ t → ⊥
      go true b =
          by_edition.never_broken (plan h) (frames h) (asks e ∙ by_edition.one_spares) c
          ((buffered_is (plan h) (frames h) (plan_buffered b) (Broken c)).0 ((reached_is (Broken c)).0 r))
      go false b = false_true (ap is_none (sym r ∙ none_reached b))

  -- ---- its periods

  -- P24: the periods of a frame are all of its grains, and all of its packets
  pub periods_whole : (periods h.stream.profile * (plan h).period ≡ frame_of h.stream)
      × (periods h.stream.profile * (plan h).packets ≡ h.stream.parameters.n)
  periods_whole = (period_all h.stream h.set_up, packets_all h.stream h.set_up)

  -- P8, P24: FPT of a whole frame, or field
  pub fpt_of_row : (i : ℕ) (r : Row) → kind_at (plan h) (frames h) i ≡ 0 → RowIs (plan h) (frames h) i r
      → let k = 2 * periods h.stream.profile in
      let F = frame_of h.stream in
      (neg_ℤ (pos F) ≤ℤ (pos k *ℤ r.fpt)) × ((pos k *ℤ r.fpt) <ℤ pos F)
  fpt_of_row i r k x =
      let long = (planned h.stream h.set_up).long in
      rw (x.times k).fpt
      (fpt_within (arrival (plan h) (frames h) (since (frames h) i) 0) (plan h).period (frame_of h.stream) (omega arith) h.stream.profile
      periods_whole.0)

  -- ---- its reads

  -- packet i, and the first of its frame
  abbrev time : ℕ → ℕ
  time i = (frames h).time i

  abbrev first : ℕ → ℕ
  first i = time (since (frames h) i)

  not_apart : (i : ℕ) → i < size h → apart_number (first i) (time i) ≡ 0
  not_apart i b =
      let up = climbs_le (λ i. (at h.packets i).time) (size h) in_order in
      let s = since (frames h) i in
      let order = up s i (since_is (frames h) i).within b in
      let began = up 0 s (omega arith) (omega (arith, (since_is (frames h) i).within)) in
      let near = arrivals_near h.packets h.closed h.fine i b in
      rw (le-ltb (time i) (first i) order, le-ltb 600000000000 (time i - first i) (omega (arith, near, began)))

  told_next : (i : ℕ) → i < size h
      → next_of h.stream (first i) (time i) ≡ awaited (next_read_of (plan h) (first i) (time i)) (plan h).reads.den
  told_next i b = is_told (first i) (time i) h.stream h.set_up (not_apart i b)

  pub next_at : (i : ℕ) → i < size h → (next : NextRead) × NextReadIs (plan h) (frames h) (since (frames h) i) (i - since (frames h) i) next
      × (next_of h.stream (first i) (time i) ≡ awaited next (plan h).reads.den)
  next_at i b =
      let s = since (frames h) i in
      let here : s + (i - s) ≡ i = omega (arith, (since_is (frames h) i).within) in (
        next_read_of (plan h) (first i) (time (s + (i - s))),
        next_by_place (plan h) (frames h) s (i - s),
        told_next i b ∙ ap (λ (j : ℕ). awaited (next_read_of (plan h) (first i) (time j)) (plan h).reads.den) (sym here),
      )

  -- the state holds it, where it has a buffer
  pub next_held : has_buffer h.stream.profile ≡ true → (i : ℕ) → size h ≡ suc i → (frames h).marked i ≡ false → begun_at (frames h) i ≡ true
      → next_of h.stream (first i) (time i)
      ≡ awaited (next_after (plan h).packets (reached h).frames.current.reads (reached h).frames.current.wait) (plan h).reads.den
  unfolding state_at
  next_held b i e unmarked begun =
      let inside : i < size h = omega arith in
      let sound = planned h.stream h.set_up in
      let answers = open_answers (plan h) (frames h) (plan_buffered b) sound.apart (omega (arith, sound.long)) in_order i inside unmarked begun in
      let Tells : Frames → Type 0 = λ s. next_of h.stream (first i) (time i)
      ≡ awaited (next_after (plan h).packets s.current.reads s.current.wait) (plan h).reads.den in
      as_declared (λ s. Tells s.frames) (subst (λ (k : ℕ). Tells (frames_at (plan h) (frames h) k)) (sym e)
      (told_next i inside ∙ ap (λ (a : NextRead). awaited a (plan h).reads.den) (sym answers)))

  -- ---- its calls

  -- one call with the whole list, from the fresh state
  pub whole_call : (rows : List ℤ) → length (numbers (rows_of_all h)) ≤ length rows
      → Accepts (fresh_of h.stream) (record { packets = h.packets; rows = rows }) (reached h)
  whole_call rows room =
      accepts (fresh_of h.stream) rows h.packets (sound_fresh h.stream h.set_up)
      (passes h.stream h.set_up h.packets h.closed h.fine) (omega (arith, room, numbers_length (rows_of_all h)))

  -- any calls with room
  pub dealt : (calls : List Call) → all_of calls ≡ h.packets → Rooms (fresh_of h.stream) calls
      → Deals (fresh_of h.stream) calls (reached h) (numbers (rows_of_all h))
  dealt calls e room =
      let x = h.stream in
      let Dealt : List Packet → Type 0 = λ m. Deals (fresh_of x) calls (state_after (rules_of x) (fresh_of x) m)
      (numbers (rows_after (rules_of x) (fresh_of x) m)) in
      subst Dealt e (deals calls (fresh_of x) (sound_fresh x h.set_up)
      (passes x h.set_up (all_of calls) h.closed (ap declared e ∙ h.fine)) room)

  -- and each row, in what they write, stands where the one call writes it
  pub dealt_row : (calls : List Call) → all_of calls ≡ h.packets → Rooms (fresh_of h.stream) calls
      → (i : ℕ) → i < size h → closes_at (frames h) i ≡ true
      → (written : List ℤ) × Deals (fresh_of h.stream) calls (reached h) written
      × (r : Row) × RowIs (plan h) (frames h) i r × (take row_width (drop (row_width * number_at (frames h) i) written) ≡ numbers_of r)
  dealt_row calls e room i b c =
      let all = numbers (rows_of_all h) in
      let row = row_at i b c in
      let same : sets all 0 all ≡ all = sets_front all all (omega arith) ∙ rw (drop-length all) (append-nil all) in
      (all, dealt calls e room, row.0, row.2, rw same at (numbers_at i row.0 all b row.1 (omega arith)))

  pub verdict_reached : verdict_of (reached h) ≡ Ok (answers_of (reached h))
  unfolding verdict_of
  verdict_reached = rw (of_sound (reached h) (sound_reached h.stream h.set_up h.packets h.closed h.fine))
