-- Both sides of a tie, a wrap, the epoch and the end of 64 bits: each VL with the wraps of its encoded time. By computing.
use Rattle.std.specs.Prelude.{◌≡◌}
use Rattle.laws.specs.Kit.{refl, pos, neg_ℤ}
use Rattle.grain.specs.Paper.{grains, nearest, LatencyIs, rtp_offset}

-- P9, P11: timestamp 2^31 + 9 encodes P/2 before 100,000 ns and P/2 after: "at least minus P/2", so the later is taken
pub at_tie : LatencyIs (grains 100000) 2147483657 (neg_ℤ (pos 644245094400000))
at_tie = record { wraps = pos 0; is = refl; low = record { le = tt }; high = record { lt = tt } }

-- "and below plus P/2": a nanosecond before, the earlier is nearer
pub before_tie : LatencyIs (grains 99999) 2147483657 (pos 644245094399973)
before_tie = record { wraps = neg_ℤ (pos 1); is = refl; low = record { le = tt }; high = record { lt = tt } }

-- and a nanosecond after, the later
pub after_tie : LatencyIs (grains 100001) 2147483657 (neg_ℤ (pos 644245094399973))
after_tie = record { wraps = pos 0; is = refl; low = record { le = tt }; high = record { lt = tt } }

-- at that arrival, a timestamp one tick later: its encoded times are a tick later too, and the earlier is nearer
pub tick_after_tie : LatencyIs (grains 100000) 2147483658 (pos 644245094100000)
tick_after_tie = record { wraps = neg_ℤ (pos 1); is = refl; low = record { le = tt }; high = record { lt = tt } }

-- and one tick earlier, the later
pub tick_before_tie : LatencyIs (grains 100000) 2147483656 (neg_ℤ (pos 644245094100000))
tick_before_tie = record { wraps = pos 0; is = refl; low = record { le = tt }; high = record { lt = tt } }

-- K10: stamped a tick before the wrap and received 15 grains after it: the encoded time is the one of no wraps, not of the arrival's one
pub over_wrap : LatencyIs (grains 47721858844445) 4294967295 (pos 300015)
over_wrap = record { wraps = pos 0; is = refl; low = record { le = tt }; high = record { lt = tt } }

-- the epoch is no exception: the timestamp of the tick before it, and VL a tick
pub at_epoch : LatencyIs (grains 0) 4294967295 (pos 300000)
at_epoch = record { wraps = neg_ℤ (pos 1); is = refl; low = record { le = tt }; high = record { lt = tt } }

-- P10: and RTP_OFFSET is a tick before it, of frames of 20 ms
pub offset_at_epoch : rtp_offset (grains 0) 4294967295 (neg_ℤ (pos 1)) 540000000 ≡ neg_ℤ (pos 300000)
unfolding nearest
offset_at_epoch = refl

-- nor is the end of 64 bits: this encoded time is after it
pub at_end : LatencyIs (grains 18446744073709551615) 243266948 (neg_ℤ (pos 106395))
at_end = record { wraps = pos 386547; is = refl; low = record { le = tt }; high = record { lt = tt } }
