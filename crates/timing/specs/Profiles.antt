-- What a profile can touch: what is kept of reads and the buffer answer, of a state; peak and least, of a row; and nothing else.
use Rattle.laws.specs.Kit.{pos}
use Rattle.limits.specs.declared.Profile.TheVariants.{Compressed}
use Rattle.frame.specs.declared.Frame.{Frame}
use Rattle.frame.specs.declared.Row.{Row}
use Rattle.frame.specs.declared.Buffer.TheVariants.{None}
use Rattle.timing.specs.declared.State.{State}
use Rattle.timing.specs.Step.{stream_with, with_other}

-- V13: an open frame without what is kept of reads
abbrev pub beside_reads : Frame → Frame
beside_reads f = record {
  held = f.held;
  first = f.first;
  stamp = f.stamp;
  phase = f.phase;
  differs = f.differs;
  reads = 0;
  wait = 0;
  top = 0;
  deficit = 0;
  late = 0;
}

-- V13: a state as a compressed stream's: nothing of reads, and no answer of the buffer
abbrev pub compressed : State → State
compressed s =
    with_other (stream_with Compressed s.numbers.edition s.numbers.parameters) (beside_reads s.frames.current) None s

-- V13: a row "with peak and least 0"
abbrev pub beside_levels : Row → Row
beside_levels r = record {
  number = r.number;
  kind = r.kind;
  detail = r.detail;
  fpt = r.fpt;
  offset = r.offset;
  latency = r.latency;
  margin = r.margin;
  gap = r.gap;
  peak = pos 0;
  least = pos 0;
  began = r.began;
}
