-- Each part by the crate below that makes it: what goes by since the packet before, and the drain instants in it.
use Rattle.std.specs.Prelude.{◌+◌, ◌*◌, ◌≡◌}
use Rattle.laws.specs.Kit.{ℕ, ap, ◌∙◌, arith}
use Rattle.grain.specs.Paper.{grains as grains_of}
use Rattle.grain.specs.Carry.{divided_of}
use Rattle.grain.specs.declared.Division.{Division}
use Rattle.bucket.specs.Step as B
use Rattle.frame.specs.Step as F
use Rattle.timing.specs.Step.{arrive_of, gone_of, left_of}
use Rattle.timing.proofs.State.arrive.Goals as goal
use Rattle.timing.proofs.State.arrive.Goals.{After-struct_known-1}

module _ (c : After-struct_known-1) where
  -- what goes by, in grains, and what is left with it
  gone : c.grains-gone.result ≡ gone_of c.args.self c.args.t
  gone = c.grains-gone.ensures ∙ ap grains_of c.since.ensures

  moved : c.grains-gone.result * c.args.rules.drains.den ≡ gone_of c.args.self c.args.t * c.args.rules.drains.den
  moved = ap (λ (g : ℕ). g * c.args.rules.drains.den) gone

  left : c.args.self.rest + c.grains-gone.result * c.args.rules.drains.den
      ≡ left_of c.args.rules c.args.self c.args.t
  left = ap (λ (g : ℕ). c.args.self.rest + g) moved

pub grains-gone-requires : goal.grains-gone-requires
grains-gone-requires c = omega (arith, c.since.ensures, c.requires.since)

pub overflow_mul-gone : goal.overflow_mul-gone
overflow_mul-gone c = record { fits = omega (arith, moved c, c.requires.reach) }

pub overflow_add-self : goal.overflow_add-self
overflow_add-self c = record { fits = omega (arith, moved (goal.at.overflow_add-self c).After-struct_known-1, c.requires.reach) }

pub divided-drains-requires : goal.divided-drains-requires
divided-drains-requires c = c.requires.apart

pub arrive-requires : goal.arrive-requires
arrive-requires c = (c.requires.planned, λ b. rw (gone (goal.at.arrive-requires c).After-struct_known-1) (c.requires.push b))

pub returns : goal.returns
unfolding arrive_of
returns c = let a = c.args in
    let drains : c.divided-drains.result ≡ divided_of (left_of a.rules a.self a.t) a.rules.drains.num =
    c.divided-drains.ensures ∙ ap (λ (x : ℕ). divided_of x a.rules.drains.num) (left (goal.at.returns c).After-struct_known-1) in
    λ j. record {
      numbers = a.self.numbers;
      past = c.next.ensures j;
      rest = (ap (λ (q : Division). q.rest) drains) j;
      bucket = (c.step.ensures
          ∙ ap (λ (q : Division). B.step_of a.self.bucket a.self.past.packets q.whole a.rules.limit) drains) j;
      frames = (c.arrive.ensures
          ∙ ap (λ (x : ℕ). F.arrive_of a.rules.plan a.self.frames x a.t a.stamp) (gone (goal.at.returns c).After-struct_known-1)) j;
    }
