-- Kind, row and answer of a frame, case by case, each from the facts that its branch of the code has found.
use Rattle.std.specs.Prelude.{◌≡◌, ◌≤◌, ◌<◌}
use Rattle.laws.specs.Kit.{refl, length, ℕ, arith, eqb, ltb, lt-ltb, le-ltb, eq-eqb, ne_eqb}
use Rattle.laws.specs.Kit.{false, not, not-false}
use Rattle.laws.proofs.Choose.{pick_either}
use Rattle.frame.specs.declared.Plan.{Plan}
use Rattle.frame.specs.declared.Frame.{Frame}
use Rattle.frame.specs.declared.Row.{Row}
use Rattle.frame.specs.declared.Buffer.{Buffer}
use Rattle.frame.specs.declared.Buffer.TheVariants.{Pass, Under, Over}
use Rattle.frame.specs.Step.{kind_of, detail_of, whole_row, broken_row, row_of, numbers_of, row_width, broken_answer, judged_of, answer_of}

module _ (f : Frame) (n : ℕ) where
  pub kind_short : f.held < n → 1 ≡ kind_of f n
  unfolding kind_of
  kind_short h = rw (lt-ltb f.held n h)

  pub kind_long : n < f.held → 2 ≡ kind_of f n
  unfolding kind_of
  kind_long h = rw (le-ltb f.held n (omega arith), lt-ltb n f.held h)

  pub kind_stamp : n ≤ f.held → f.held ≤ n → (f.differs ≡ 0 → ⊥) → 3 ≡ kind_of f n
  unfolding kind_of
  kind_stamp h k d = rw (le-ltb f.held n h, le-ltb n f.held k, ne_eqb f.differs 0 d)

  pub kind_whole : n ≤ f.held → f.held ≤ n → f.differs ≡ 0 → 0 ≡ kind_of f n
  unfolding kind_of
  kind_whole h k d = rw (le-ltb f.held n h, le-ltb n f.held k, eq-eqb f.differs 0 d)

pub ruleset kinds = (kind_short, kind_long, kind_stamp, kind_whole)

pub kind_small : (f : Frame) (n : ℕ) → kind_of f n ≤ 3
unfolding kind_of
kind_small f n =
    pick_either (λ k. k ≤ 3) (ltb f.held n) (λ e. omega arith) (λ e.
    pick_either (λ k. k ≤ 3) (ltb n f.held) (λ e. omega arith) (λ e.
    pick_either (λ k. k ≤ 3) (eqb f.differs 0) (λ e. omega arith) (λ e. omega arith)))

pub detail_small : (f : Frame) (kind : ℕ) {m : ℕ} → f.held ≤ m → f.differs ≤ m → detail_of f kind ≤ m
detail_small f kind {m} h d =
    pick_either (λ k. k ≤ m) (eqb kind 3) (λ e. d) (λ e. pick_either (λ k. k ≤ m) (eqb kind 0) (λ e. omega arith) (λ e. h))

module _ (plan : Plan) (number : ℕ) (f : Frame) where
  pub row_whole : (marked began : ℕ) → kind_of f plan.packets ≡ 0 → whole_row plan number marked began f ≡ row_of plan number marked began f
  unfolding row_of
  row_whole marked began e = rw (eq-eqb (kind_of f plan.packets) 0 e)

  pub row_broken : (marked began kind : ℕ) → kind ≡ kind_of f plan.packets → (kind ≡ 0 → ⊥)
      → broken_row number kind (detail_of f kind) began ≡ row_of plan number marked began f
  unfolding row_of
  row_broken marked began kind e b = rw e (rw (ne_eqb (kind_of f plan.packets) 0 (rw e at b)))

  -- a broken frame by its own kind
  pub judged_broken : {kind : ℕ} → kind ≡ kind_of f plan.packets → (kind ≡ 0 → ⊥)
      → broken_answer plan.edition number kind ≡ judged_of plan number f
  unfolding judged_of
  judged_broken e b = rw e (rw (ne_eqb (kind_of f plan.packets) 0 (rw e at b)))

  pub judged_under : kind_of f plan.packets ≡ 0 → 0 < f.deficit → Under (record { frame = number; place = f.late })
      ≡ judged_of plan number f
  unfolding judged_of
  judged_under e d = rw (eq-eqb (kind_of f plan.packets) 0 e, lt-ltb 0 f.deficit d)

  pub judged_over : kind_of f plan.packets ≡ 0 → f.deficit ≤ 0 → plan.full < f.top
      → Over (record { frame = number; place = f.top }) ≡ judged_of plan number f
  unfolding judged_of
  judged_over e d t = rw (eq-eqb (kind_of f plan.packets) 0 e, le-ltb 0 f.deficit d, lt-ltb plan.full f.top t)

  pub judged_pass : kind_of f plan.packets ≡ 0 → f.deficit ≤ 0 → f.top ≤ plan.full → Pass ≡ judged_of plan number f
  unfolding judged_of
  judged_pass e d t = rw (eq-eqb (kind_of f plan.packets) 0 e, le-ltb 0 f.deficit d, le-ltb plan.full f.top t)

  -- and what is judged is the answer, where something is
  pub answer_judged : {b : Buffer} → not plan.buffered ≡ false → b ≡ judged_of plan number f → b ≡ answer_of plan number f
  unfolding answer_of
  answer_judged e j = rw (not-false plan.buffered e) j

-- every row has as many numbers
pub row_width_lem : (r : Row) → length (numbers_of r) ≡ row_width
row_width_lem r = refl
