-- What a step carries from one packet to the next in place of the product and the quotient of a whole time: what is left after the last
-- instant, and how far it is to the next read. Both are told of the whole time; that a step keeps them so: proofs/Onward.antt.
use Rattle.std.specs.Prelude.{◌≡◌, ◌+◌, ◌*◌, ◌-◌, ◌/◌, ◌%◌, ◌≤◌, ◌<◌, None, Some}
use Rattle.laws.specs.Kit.{ℕ, min, leb, ltb}
use Rattle.laws.specs.Choose.{pick}
use Rattle.grain.specs.declared.Division.{Division}
use Rattle.grain.specs.declared.Kept.{Kept}
use Rattle.grain.specs.declared.Reads.{Reads}
use Rattle.grain.specs.Paper.{NextRead}
use Rattle.grain.specs.Paper.{reads_before, next_read}

-- ---- instants

-- E1: instants lie k·num/den after a start: what is left of e after the last of them, times den. As many as are up to e: `instants`
abbrev pub since_instant : ℕ → ℕ → ℕ → ℕ
since_instant e num den = e * den % num

-- x in whole num's, and what is left of it
abbrev pub divided_of : ℕ → ℕ → Division
divided_of x num = record { whole = x / num; rest = x % num }

-- one num taken off x, where it is in it
unfoldable pub taken_of : ℕ → ℕ → Division
taken_of x num = record { whole = pick (leb num x) 1 0; rest = pick (leb num x) (x - num) x }

-- ---- reads

-- P14, P16: had the reads no end, `next` of them are strictly before x, and read `next` is not: it is `wait` after x, times den.
-- One `next` and one `wait` are so: proofs/Onward.antt
pub record EndlessNext (base num den x next wait : ℕ) : Type 0 where
  pub before : (j : ℕ) → j < next → base * den + j * num < x * den
  pub due : x * den + wait ≡ base * den + next * num

-- as they are worked out: the spacings since read 0, a begun one counted
abbrev pub endless_read : ℕ → ℕ → ℕ → ℕ → ℕ
endless_read base num den x = ((x - base) * den + (num - 1)) / num

abbrev pub wait_at : ℕ → ℕ → ℕ → ℕ → ℕ
wait_at base num den x = base * den + endless_read base num den x * num - x * den

-- P16, P20, P21: what is known of n reads at x: those before it, the next, and the wait to go on with
abbrev pub reads_at : ℕ → ℕ → ℕ → ℕ → ℕ → Reads
reads_at n base num den x = record {
  count = reads_before n base num den x;
  next = next_read n base num den x;
  wait = wait_at base num den x;
}

-- the reads that come by while a time goes by, which is told times den, where the next is `wait` away
abbrev pub passed_by : ℕ → ℕ → ℕ → ℕ
passed_by wait num gone = (gone - wait + (num - 1)) / num

-- the reads of n that are over then, and the wait for the one after them
abbrev pub carried_on : ℕ → ℕ → ℕ → ℕ → ℕ → Kept
carried_on count wait n num gone = record {
  count = min n (count + passed_by wait num gone);
  wait = wait + passed_by wait num gone * num - gone;
}

-- P21, P22: the next of n reads, where `count` are over and the one after them is `wait` away
abbrev pub next_after : ℕ → ℕ → ℕ → NextRead
next_after n count wait = pick (ltb count n) (Some wait) None

-- all that is known of n reads, where so much is kept of them
abbrev pub known_of : ℕ → Kept → Reads
known_of n k = record { count = k.count; next = next_after n k.count k.wait; wait = k.wait }

-- and of the reads that are over after a time goes by
abbrev pub reads_onward : ℕ → ℕ → ℕ → ℕ → ℕ → Reads
reads_onward count wait n num gone = known_of n (carried_on count wait n num gone)

-- before so much goes by: nothing leaves 64 bits on the way to the second read after the next, nor where the time is divided
pub record ReadsAsks (count wait n num gone : ℕ) : Type 0 where
  pub apart : 0 < num
  pub among : count ≤ n
  pub goes : count + gone + 2 * num < 18446744073709551616
  pub waits : wait + 2 * num < 18446744073709551616
