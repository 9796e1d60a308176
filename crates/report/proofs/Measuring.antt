-- The packets of a file, measured one by one: what is left of the file, from the state and the bytes so far, gives what the whole gives.
-- It is the measurement's one loop (timing's Running) with rows as bytes; a packet that is read (Here) is the first of what is left.
use Rattle.std.specs.Prelude.{◌≡◌, ◌∷◌, ◌++◌, ◌+◌, ◌-◌, ◌≤◌, ◌<◌}
use Rattle.laws.specs.Kit.{refl, sym, ap, subst, ◌∙◌, true, false, List, ℕ, arith, length, take, drop}
use Rattle.laws.specs.Kit.{inl, inr, min, drop-length, drop_of_length-le, length-append, length-drop, drop-drop, take_at, drop_at}
use Rattle.std.proofs.lemmas.Bool.{cases_lt}
use Rattle.laws.proofs.Choose.{neither}
use Rattle.packet.specs.declared.Packet.{Packet}
use Rattle.packet.specs.Step.{nothing, next_of}
use Rattle.timing.specs.declared.StreamNumbers.{StreamNumbers}
use Rattle.timing.specs.declared.Rules.{Rules}
use Rattle.timing.specs.declared.State.{State}
use Rattle.timing.specs.Step.{rules_of, fresh_of, arrive_of}
use Rattle.timing.specs.Feed.{ArriveAsks, LayAsks, Passes, RunGives}
use Rattle.timing.specs.Range.{in_range, Sound}
use Rattle.timing.proofs.InRange.{sound_fresh, of_sound}
use Rattle.timing.proofs.Dealing.{sound_after}
use Rattle.timing.proofs.Scanning.{scan_runs}
use Rattle.timing.proofs.Running.{step_past}
use Rattle.timing.proofs.Running as R
use Rattle.record.specs.Paper.{packet_bytes, head_bytes, packet_at, done, Packets, packet_refusal, packets_in}
use Rattle.record.proofs.Ways.{packet_alone, rest_all}
use Rattle.record.proofs.Reading.{packet_here, packets_end, packets_go, packets_accepted}
use Rattle.record.proofs.ReadWrite.{packets_scan}
use Rattle.report.specs.Paper.{row_bytes, summary_bytes}
use Rattle.report.specs.Step.{packets_of, MeasureAsks, MeasureGives}
use Rattle.report.proofs.Bytes.{as_bytes}

-- ---- what stands behind the head, and a record that is cut off the front of what is left

-- nothing, in a file that is shorter
pub behind_head : (file : List ℕ) → drop (min head_bytes (length file)) file ≡ drop head_bytes file
behind_head file = elim (cases_lt (length file) head_bytes) [
  | inl h ↦ let m : min head_bytes (length file) ≡ length file = omega arith in
      rw m (drop-length file ∙ sym (drop_of_length-le file {i = head_bytes} (omega arith)))
  | inr h ↦ let m : min head_bytes (length file) ≡ head_bytes = omega arith in rw m
]

module _ (file bytes behind : List ℕ) (from : ℕ) {left : List ℕ} (is : left ≡ drop from file) (cut : left ≡ bytes ++ behind)
    (long : length bytes ≡ packet_bytes) where
  joined : drop from file ≡ bytes ++ behind
  joined = sym is ∙ cut

  -- the piece that a turn lends has a record's bytes
  pub piece_there : packet_bytes ≤ length bytes
  piece_there = omega (arith, long)

  pub cut_some : from < length file
  cut_some = omega (arith, long, length-drop from file, ap length joined, length-append bytes behind)

  pub cut_read : packet_at bytes ≡ packet_at (drop from file)
  cut_read = sym (ap packet_at (ap (take packet_bytes) joined ∙ take_at bytes behind packet_bytes long)) ∙ packet_alone (drop from file)

  pub cut_behind : behind ≡ drop (from + packet_bytes) file
  cut_behind = sym (drop_at bytes behind packet_bytes long) ∙ ap (drop packet_bytes) (sym joined) ∙ drop-drop packet_bytes from file

-- ---- the loop

abbrev pub rest : List ℕ → State → ℕ → Packets
rest file s from = packets_in s.past from (drop from file)

-- the one loop of the measurement, with its rows as bytes, over what is left of the file
pub record Loop (x : StreamNumbers) (file out₀ : List ℕ) (rules : Rules) (s : State) (from at : ℕ) (out : List ℕ) : Type 0 where
  pub rules_are : rules ≡ rules_of x
  pub loop : R.Loop as_bytes rules (fresh_of x) (packets_of file) summary_bytes out₀ s (rest file s from).accepted at out
  pub ends : (rest file s from).ending ≡ done

-- the packets of a file that can be measured pass
passes : {x : StreamNumbers} {file : List ℕ} {room : ℕ} → MeasureAsks x file room → Passes (fresh_of x).past (packets_of file)
passes {x} {file} m =
    let scans = packets_scan (length (drop head_bytes file)) nothing false 0 head_bytes (drop head_bytes file) (omega arith) m.whole in
    (scan_runs (packets_of file) (rules_of x) (fresh_of x) 0 scans.0 scans.1).0

pub loop_begins : (x : StreamNumbers) (file out : List ℕ) {rules : Rules} {s : State} → MeasureAsks x file (length out) → rules ≡ rules_of x
    → s ≡ fresh_of x → Loop x file out rules s head_bytes summary_bytes out
loop_begins x file out m er es = rw (er, es) (record {
  rules_are = refl;
  loop = R.loop_begins as_bytes out (record {
    going = record { rules_are = refl; sound = sound_fresh x m.set_up };
    passes = passes m;
    fits = m.fits;
  });
  ends = m.whole;
})

module _ {x : StreamNumbers} {file out₀ : List ℕ} {rules : Rules} {s : State} {from at : ℕ} {out : List ℕ} where
  module _ (k : Loop x file out₀ rules s from at out) where
    -- a packet is read in what is left
    pub record Here (q : Packet) : Type 0 where
      pub some : from < length file
      pub read : q ≡ packet_at (drop from file)

    module _ (some : from < length file) where
      fine : packet_refusal s.past (drop from file) ≡ 0
      fine = packets_accepted s.past from (drop from file) (omega (arith, length-drop from file, some)) k.ends

      pub sixteen : from + packet_bytes ≤ length file
      sixteen =
          let here = packet_here (drop from file) (neither _ _ fine).0 in
          omega (arith, here.sixteen, length-drop from file)

      -- and so what a turn's piece is cut from has a record's bytes
      pub there : packet_bytes ≤ length (take (length file - from) (drop from file))
      there = rw (rest_all file from) (omega (arith, sixteen, length-drop from file))

    -- what is left is too short for a record: nothing is
    pub loop_ends : length (drop from file) < packet_bytes → MeasureGives x file out₀ s out
    loop_ends short =
        let h : length file ≤ from = elim (cases_lt from (length file)) [
          | inl some ↦ absurd (omega (arith, short, there some, ap length (rest_all file from)))
          | inr all ↦ all
        ] in
        let none = packets_end s.past from (drop from file) (omega (arith, length-drop from file)) in
        let ran = R.loop_ends as_bytes (ap (λ (r : Packets). r.accepted) none) k.loop in
        subst (λ (q : Rules). RunGives row_bytes q (fresh_of x) (packets_of file) summary_bytes out₀ s out) k.rules_are ran

  module _ {k : Loop x file out₀ rules s from at out} {q : Packet} (h : Here k q) where
    -- what is left behind its record
    abbrev next : Packets
    next = packets_in (next_of s.past q.time) (from + packet_bytes) (drop packet_bytes (drop from file))

    goes : rest file s from ≡ record { accepted = q ∷ next.accepted; ending = next.ending }
    goes = rw h.read (packets_go s.past from (drop from file) (fine k h.some))

    these : (rest file s from).accepted ≡ q ∷ next.accepted
    these = ap (λ (r : Packets). r.accepted) goes

    pub packet_arrives : ArriveAsks rules s q.time
    packet_arrives = R.loop_arrives as_bytes these k.loop

    module _ {a : State} (ea : a ≡ arrive_of rules s q.time q.stamp) where
      pub packet_lays : q.marker ≡ 1 → LayAsks row_bytes rules a at (length out)
      packet_lays m = rw ea (R.loop_lays as_bytes these k.loop m)

      pub packet_closed : a.frames.closed ≤ 1000000000
      packet_closed = rw ea (R.loop_closed as_bytes these k.loop)

    pub packet_next : {s' : State} {at' : ℕ} {out' : List ℕ} → R.Turn as_bytes rules s q at out s' at' out'
        → Loop x file out₀ rules s' (from + packet_bytes) at' out'
    packet_next {s'} {at'} {out'} t =
        let past : s'.past ≡ next_of s.past q.time = ap (λ (z : State). z.past) t.state ∙ step_past rules s q in
        let behind : rest file s' (from + packet_bytes) ≡ next = rw (past, drop-drop packet_bytes from file) in
        record {
          rules_are = k.rules_are;
          loop = subst (λ (r : Packets). R.Loop as_bytes rules (fresh_of x) (packets_of file) summary_bytes out₀ s' r.accepted at' out')
              (sym behind) (R.loop_next as_bytes these k.loop t);
          ends = ap (λ (r : Packets). r.ending) behind ∙ sym (ap (λ (r : Packets). r.ending) goes) ∙ k.ends;
        }

-- the state of a file that can be measured is in range
pub measured_in_range : {x : StreamNumbers} {file before after : List ℕ} {room : ℕ} {s : State} → MeasureAsks x file room
    → MeasureGives x file before s after → in_range s ≡ true
measured_in_range {x} {file} {s = s} m d =
    of_sound s (subst Sound (sym d.state_is) (sound_after (packets_of file) (fresh_of x) (sound_fresh x m.set_up) (passes m)))

-- of the stream that the fresh state is of
pub measured_from : {x : StreamNumbers} (file : List ℕ) {out₀ out : List ℕ} {s₀ s : State} → s₀ ≡ fresh_of x
    → MeasureGives s₀.numbers file out₀ s out → MeasureGives x file out₀ s out
measured_from file {out₀} {out} {s = s} e m =
    subst (λ (y : StreamNumbers). MeasureGives y file out₀ s out) (ap (λ (z : State). z.numbers) e) m
