-- The measurement step by step: what follows from the stream numbers, one packet more, and the rows that it writes.
use Rattle.std.specs.Prelude.{◌∷◌, ◌++◌, ◌+◌, ◌*◌, ◌/◌, ◌%◌}
use Rattle.laws.specs.Kit.{List, [], ℕ, ℤ}
use Rattle.laws.specs.Choose.{pick, or_else}
use Rattle.laws.specs.Fold.{fold}
use Rattle.grain.specs.Paper.{grains}
use Rattle.limits.specs.Paper.{frame_length, sender_class, c_max, vrx_full, tro_grains, read_num, read_den, set_up_in}
use Rattle.limits.specs.Paper.{has_buffer, per_period, profile_kind, profile_of, profile_refusal}
use Rattle.limits.specs.declared.Profile.{Profile}
use Rattle.limits.specs.declared.Profile.TheVariants.{Video}
use Rattle.limits.specs.declared.Parameters.{Parameters}
use Rattle.packet.specs.declared.Packet.{Packet}
use Rattle.packet.specs.Paper.{marked}
use Rattle.packet.specs.Step.{nothing, since_of, next_of}
use Rattle.bucket.specs.Step as B
use Rattle.frame.specs.declared.Frame.{Frame}
use Rattle.frame.specs.declared.Row.{Row}
use Rattle.frame.specs.declared.Buffer.{Buffer}
use Rattle.frame.specs.Step as F
use Rattle.timing.specs.declared.StreamNumbers.{StreamNumbers}
use Rattle.timing.specs.declared.Stated.{Stated}
use Rattle.timing.specs.declared.Rules.{Rules}
use Rattle.timing.specs.declared.State.{State}

-- ---- what follows from the stream numbers

-- S11, S12: "the edition is chosen at set-up", beside the parameters, and so is the profile
abbrev pub stream_with : Profile → ℕ → Parameters → StreamNumbers
stream_with profile edition p = record { parameters = p; edition = edition; profile = profile }

-- S11: "`vtiming` and the writer mean edition 1": the stream numbers of parameters, where set-up is told nothing else but a profile
abbrev pub of_profile : Profile → Parameters → StreamNumbers
of_profile profile p = stream_with profile 1 p

-- and where it is told nothing else: video
abbrev pub of_parameters : Parameters → StreamNumbers
of_parameters p = of_profile Video p

-- N2, S13: the refusals 1 to 8 of set-up, 0 where there is none
abbrev pub set_up_of : StreamNumbers → ℕ
set_up_of x = set_up_in x.profile x.parameters x.edition

-- S12: the stream numbers that a caller states, whose profile is the one that its kind chooses
abbrev pub stated_of : Stated → StreamNumbers
stated_of t = stream_with (profile_of t.kind) t.edition t.parameters

-- and how stream numbers are stated
abbrev pub stated_as : StreamNumbers → Stated
stated_as x = record { kind = profile_kind x.profile; parameters = x.parameters; edition = x.edition }

-- S11, S12: parameters and the kind of their record, where nothing else is stated: "`vtiming` and the writer mean edition 1"
abbrev pub first_stated : ℕ → Parameters → Stated
first_stated kind p = record { kind = kind; parameters = p; edition = 1 }

-- N1, N2, S12: 22 for a kind that chooses none, before 1 to 8
unfoldable pub stated_refusal : Stated → ℕ
stated_refusal t = or_else (profile_refusal t.kind) (set_up_of (stated_of t))

abbrev pub frame_of : StreamNumbers → ℕ
frame_of x = frame_length x.parameters.rate

-- S13, P24: the plan is of one period, a frame or a field, with its packets; "The limits C_MAX and VRX_FULL use n and the whole frame, as does the
-- drain spacing.", and "reads are spaced R·F/n apart" (document 02, ix)
unfoldable pub rules_of : StreamNumbers → Rules
rules_of x = record {
  plan = record {
    period = per_period x.profile (frame_of x);
    packets = per_period x.profile x.parameters.n;
    tro = tro_grains (frame_of x) x.parameters.height x.parameters.tro;
    reads = record { num = read_num x.parameters.schedule (frame_of x); den = read_den x.parameters.schedule x.parameters.n };
    full = vrx_full (sender_class x.parameters) x.parameters.maxudp (frame_of x) x.parameters.n;
    edition = x.edition;
    buffered = has_buffer x.profile;
  };
  drains = record { num = 10 * frame_of x; den = 11 * x.parameters.n };
  limit = c_max (sender_class x.parameters) x.parameters.schedule (frame_of x) x.parameters.n;
}

-- B7: the state before the first packet
abbrev pub fresh_of : StreamNumbers → State
fresh_of x = record { numbers = x; past = nothing; rest = 0; bucket = B.empty_of; frames = F.no_frames }

-- a state with other stream numbers, another open frame and another answer of the buffer, and all else as it is
abbrev pub with_other : StreamNumbers → Frame → Buffer → State → State
with_other x f b s = record {
  numbers = x;
  past = s.past;
  rest = s.rest;
  bucket = s.bucket;
  frames = record { begun = s.frames.begun; closed = s.frames.closed; marked = s.frames.marked; current = f; buffer = b };
}

-- ---- one packet more

-- the grains from the packet before to one at t
abbrev pub gone_of : State → ℕ → ℕ
gone_of s t = grains (since_of s.past t)

-- B1: since the last drain instant up to the packet before, times den: its whole spacings are the drain instants from there to t
abbrev pub left_of : Rules → State → ℕ → ℕ
left_of rules s t = s.rest + gone_of s t * rules.drains.den

-- P4: the packet arrives: it is in the bucket, and in the open frame if there is one
unfoldable pub arrive_of : Rules → State → ℕ → ℕ → State
arrive_of rules s t stamp = record {
  numbers = s.numbers;
  past = next_of s.past t;
  rest = left_of rules s t % rules.drains.num;
  bucket = B.step_of s.bucket s.past.packets (left_of rules s t / rules.drains.num) rules.limit;
  frames = F.arrive_of rules.plan s.frames (gone_of s t) t stamp;
}

-- B5: and is a marker, which leaves the bucket as it is
unfoldable pub mark_of : Rules → State → ℕ → State
mark_of rules s t = record {
  numbers = s.numbers;
  past = s.past;
  rest = s.rest;
  bucket = s.bucket;
  frames = F.close_of
      rules.plan s.frames t;
}

unfoldable pub step_of : Rules → State → Packet → State
unfolding arrive_of mark_of
step_of rules s p = pick (marked p) (mark_of rules (arrive_of rules s p.time p.stamp) p.time) (arrive_of rules s p.time p.stamp)

abbrev pub rows_of : Rules → State → Packet → List Row
rows_of rules s p = F.rows_of rules.plan s.frames (next_of s.past p.time).packets (gone_of s p.time) p.time p.stamp (marked p)

-- ---- a list of packets

abbrev pub state_after : Rules → State → List Packet → State
state_after rules = fold (step_of rules)

unfoldable pub rows_after : Rules → State → List Packet → List Row
unfolding step_of
rows_after rules s [] = []
rows_after rules s (p ∷ ps) = rows_of rules s p ++ rows_after rules (step_of rules s p) ps

-- the rows' numbers, one row after the other
unfoldable pub numbers : List Row → List ℤ
numbers [] = []
numbers (r ∷ rs) = F.numbers_of r ++ numbers rs
