-- A list of tests, of any length, passes exactly where each fact that it means holds. By the list.
use Rattle.std.specs.Prelude.{◌≡◌, ◌&&◌, ◌||◌, ◌∷◌, ◌++◌}
use Rattle.laws.specs.Kit.{refl, sym, ap, ◌∙◌, Bool, true, false, not, List, [], append_assoc, ℕ, zero}
use Rattle.laws.specs.Kit.{suc, get_or, leb-true, le-leb, ltb-true, lt-ltb, eqb-true, eq-eqb}
use Rattle.laws.proofs.Choose.{false_true}
use Rattle.laws.specs.Every.{Test, at_most, below, same, is, where_so, passes, Means, after, every, All, Entry, tests}

-- facts put together: `x and y and tt`
infixr 5 ◌and◌
pub ◌and◌ : {A B : Type 0} → A → B → A × B
◌and◌ x y = (x, y)

-- ---- and of two, each

pub and_left : (a b : Bool) → (a && b) ≡ true → a ≡ true
and_left true b e = refl
and_left false b e = absurd (false_true e)

pub and_right : (a b : Bool) → (a && b) ≡ true → b ≡ true
and_right true b e = e
and_right false b e = absurd (false_true e)

pub and_both : {a b : Bool} → a ≡ true → b ≡ true → (a && b) ≡ true
and_both e f = rw (e, f)

-- ---- the test is the fact

implied : (a b : Bool) → (not a || b) ≡ true → a ≡ true → b ≡ true
implied true b e f = e
implied false b e f = absurd (false_true f)

implies : (a b : Bool) → (a ≡ true → b ≡ true) → (not a || b) ≡ true
implies true b f = f refl
implies false b f = refl

meant : (t : Test) → (passes t ≡ true → Means t) × (Means t → passes t ≡ true)
meant (at_most a b) = (leb-true a b, le-leb a b)
meant (below a b) = (ltb-true a b, lt-ltb a b)
meant (same a b) = (eqb-true a b, eq-eqb a b)
meant (is b) = (λ e. e, λ e. e)
meant (where_so t u) = (
  λ e m. (meant u).0 (implied (passes t) (passes u) e ((meant t).1 m)),
  λ f. implies (passes t) (passes u) (λ e. (meant u).1 (f ((meant t).0 e))),
)

pass_after : (b : Bool) (ts : List Test) → after b ts ≡ true → (b ≡ true) × All ts
unfolding after All
pass_after b [] e = (e, tt)
pass_after b (t ∷ ts) e =
    let x = pass_after (b && passes t) ts e in
    (and_left b (passes t) x.0, ((meant t).0 (and_right b (passes t) x.0), x.1))

after_pass : (b : Bool) (ts : List Test) → b ≡ true → All ts → after b ts ≡ true
unfolding after All
after_pass b [] e x = e
after_pass b (t ∷ ts) e x = after_pass (b && passes t) ts (and_both e ((meant t).1 x.0)) x.1

fact : (ts : List Test) → All ts → (k : ℕ) → Means (get_or ts k (is true))
unfolding All
fact [] x k = refl
fact (t ∷ ts) x zero = x.0
fact (t ∷ ts) x (suc k) = fact ts x.1 k

-- a list of tests is one test, alone or before others
pub after_all : (b : Bool) (us : List Test) → after b us ≡ (b && every us)
unfolding after
after_all true us = refl
after_all false us = none us
  where
    none : (us : List Test) → after false us ≡ false
    none [] = refl
    none (t ∷ us) = none us

pub after_front : (b : Bool) (ts us : List Test) → after b (ts ++ us) ≡ after (b && every ts) us
unfolding after
after_front b ts us = go b ts ∙ ap (λ (c : Bool). after c us) (after_all b ts)
  where
    go : (b : Bool) (ts : List Test) → after b (ts ++ us) ≡ after (after b ts) us
    go b [] = refl
    go b (t ∷ ts) = go (b && passes t) ts

pub tests_append : (a b : List Entry) → tests (a ++ b) ≡ tests a ++ tests b
tests_append [] b = refl
tests_append (e ∷ a) b =
    ap (λ (l : List Test). e.range ++ l) (tests_append a b) ∙ sym (append_assoc e.range (tests a) (tests b))

-- where all pass, test k's fact; and all pass where each fact holds
pub facts : (ts : List Test) → every ts ≡ true → (k : ℕ) → Means (get_or ts k (is true))
facts ts e = fact ts (pass_after true ts e).1

pub of_facts : (ts : List Test) → All ts → every ts ≡ true
of_facts ts x = after_pass true ts refl x
