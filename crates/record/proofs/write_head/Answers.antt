-- The version byte and the parameters, field by field: their stores are the head of the file, stored. Each store leaves the length, which
-- is said once for each call.
use Rattle.std.specs.Prelude.{◌≡◌}
use Rattle.laws.specs.Kit.{ap, ◌∙◌, List, ℕ, length, length-set, length-sets}
use Rattle.record.proofs.Stores.{head_stored}
use Rattle.record.proofs.write_head.Goals as goal
use Rattle.record.proofs.write_head.Goals.{After-write16-arg-2-1, After-write32-arg-1, After-write32-arg-2-1}

-- the bytes that were lent
abbrev lent : After-write32-arg-1 → List ℕ
lent c = c.args.out.now

abbrev lent-at-After-write16-2 : After-write32-arg-2-1 → List ℕ
lent-at-After-write16-2 c = c.args.out.now

abbrev lent-at-After-write32 : After-write16-arg-2-1 → List ℕ
lent-at-After-write32 c = c.args.out.now

long16 : (c : After-write32-arg-1) → length c.write16.new.d ≡ length (lent c)
long16 c = simp (length-sets, length-set) at (ap length c.write16.ensures)

long16-at-After-write16-2 : (c : After-write32-arg-2-1) → length c.write16.new.d ≡ length (lent-at-After-write16-2 c)
long16-at-After-write16-2 c = simp (length-sets, length-set) at (ap length c.write16.ensures)

long16-at-After-write32 : (c : After-write16-arg-2-1) → length c.write16.new.d ≡ length (lent-at-After-write32 c)
long16-at-After-write32 c = simp (length-sets, length-set) at (ap length c.write16.ensures)

long32 : (c : After-write16-arg-2-1) → length c.write32.new.d ≡ length (lent-at-After-write32 c)
long32 c = (simp length-sets at (ap length c.write32.ensures)) ∙ long16-at-After-write32 c

long32-at-After-write16-2 : (c : After-write32-arg-2-1) → length c.write32.new.d ≡ length (lent-at-After-write16-2 c)
long32-at-After-write16-2 c = (simp length-sets at (ap length c.write32.ensures)) ∙ long16-at-After-write16-2 c

long162 : (c : After-write32-arg-2-1)
    → length c.write16-2.new.d ≡ length (lent-at-After-write16-2 c)
long162 c = (simp length-sets at (ap length c.write16-2.ensures)) ∙ long32-at-After-write16-2 c

pub returns : goal.returns
returns c = cc (head_stored _ _ _ _)
