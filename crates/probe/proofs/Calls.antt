-- The ways out of set-up and of a call, one law each, from what the code has found.
use Rattle.std.specs.Prelude.{◌≡◌, ◌≤◌, ◌<◌, Ok, Err, None, Some}
use Rattle.laws.specs.Kit.{refl, sym, ap, ◌∙◌, List, ℕ, arith, ℤ, length, take, length-take, sets, ne_eqb, le-leb, lt-leb}
use Rattle.laws.proofs.Choose.{second, before}
use Rattle.refusal.specs.Told.{Numbered}
use Rattle.timing.specs.declared.Stated.{Stated}
use Rattle.timing.specs.declared.State.{State}
use Rattle.timing.specs.Feed.{Fed, not_fed}
use Rattle.timing.specs.Step.{stated_of, stated_refusal, fresh_of}
use Rattle.timing.specs.Answers.{summary_width, summary_of}
use Rattle.timing.specs.Feed.{feed_of, FeedGives}
use Rattle.timing.proofs.Feeding.{refused_stays}
use Rattle.probe.specs.Words.{Held, state_words, words_of, state_held_by}
use Rattle.probe.specs.Calls.{words_number, set_up_left, SetUpGives, CallOutcome, refused, accepted, by_fed, by_held, call_of, CallGives, asked_of}
use Rattle.probe.proofs.RoundTrip.{length_words, only_words_hold}
use Rattle.probe.proofs.Asking.{by_lengths}

-- ---- set-up

module _ (x : Stated) (words : List ℕ) where
  by_number : (n : ℕ) → words_number x (length words) ≡ n → 0 < n → SetUpGives x words n words
  unfolding set_up_left
  by_number n e p = record { number_is = sym e; words_are = sym (rw (e, ne_eqb n 0 (λ z. omega arith))) }

  pub not_set_up : (n : ℕ) → stated_refusal x ≡ n → 0 < n → SetUpGives x words n words
  unfolding words_number
  not_set_up n e p = by_number n (before _ _ (omega (arith, e)) ∙ e) p

  pub no_room : stated_refusal x ≡ 0 → length words < state_words → SetUpGives x words 15 words
  unfolding words_number
  no_room e h = by_number 15 (second _ _ e ∙ rw (lt-leb state_words (length words) h)) (omega arith)

  pub words_fit : stated_refusal x ≡ 0 → state_words ≤ length words → words_number x (length words) ≡ 0
  unfolding words_number
  words_fit e h = second _ _ e ∙ rw (le-leb state_words (length words) h)

  pub set_up : {s : State} {after : List ℕ} → stated_refusal x ≡ 0 → state_words ≤ length words → s ≡ fresh_of (stated_of x) → after ≡ sets words 0 (words_of s)
      → SetUpGives x words 0 after
  unfolding set_up_left
  set_up e h f g =
      let fine : words_number x (length words) ≡ 0 = words_fit e h in
      record { number_is = sym fine; words_are = g ∙ ap (λ (t : State). sets words 0 (words_of t)) f ∙ sym (rw fine) }

-- ---- a call

is : {told : CallOutcome} (t : CallOutcome) → t ≡ told → CallGives told t.number t.words t.rows t.out
is t e = record {
  number_is = ap (λ (x : CallOutcome). x.number) e;
  words_are = ap (λ (x : CallOutcome). x.words) e;
  rows_are = ap (λ (x : CallOutcome). x.rows) e;
  out_is = ap (λ (x : CallOutcome). x.out) e;
}

pub enough_words : (words : List ℕ) {h : Held} {s : State} → h ≡ state_held_by (take state_words words) → h ≡ Some s → state_words ≤ length words
enough_words words {s = s} e f =
    let w = ap length (only_words_hold (take state_words words) s (sym e ∙ f)) in
    omega (arith, w, length_words s, length-take state_words words)

module _ (words : List ℕ) (rows : List ℤ) (out ts ss ms : List ℕ) where
  by_held_lem : {h : Held} → h ≡ state_held_by (take state_words words) → by_held words rows out ts ss ms h ≡ call_of words rows out ts ss ms
  unfolding call_of
  by_held_lem e = ap (by_held words rows out ts ss ms) e

  pub no_state : {h : Held} → h ≡ state_held_by (take state_words words) → h ≡ None → CallGives (call_of words rows out ts ss ms) 9 words rows out
  no_state e f = is (refused words rows out 9 0) (by_held_lem (sym f ∙ e))

  -- where there is no room for the summary the call is refused, whatever the words hold
  short : length out < summary_width → call_of words rows out ts ss ms
      ≡ refused words rows out (call_of words rows out ts ss ms).number (call_of words rows out ts ss ms).place
  unfolding call_of
  short h = go (state_held_by (take state_words words))
    where
      fed : (s : State) (b : Fed) (after : List ℤ) → by_fed words rows out s b after
          ≡ refused words rows out (by_fed words rows out s b after).number (by_fed words rows out s b after).place
      fed s (Ok t) after = rw (lt-leb summary_width (length out) h)
      fed s (Err r) after = refl

      go : (x : Held) → by_held words rows out ts ss ms x
          ≡ refused words rows out (by_held words rows out ts ss ms x).number (by_held words rows out ts ss ms x).place
      go (Some s) = fed s (feed_of s rows ts ss ms).answer (feed_of s rows ts ss ms).rows
      go None = refl

  pub no_summary : {a : Numbered} → length out < summary_width → a ≡ asked_of words ts ss ms (length rows) (length out)
      → CallGives (call_of words rows out ts ss ms) a.number words rows out
  no_summary h e =
      let told = call_of words rows out ts ss ms in
      let r = is (refused words rows out told.number told.place) (sym (short h)) in
      record {
        number_is = ap (λ (x : Numbered). x.number) (e ∙ by_lengths ts ss ms words rows out);
        words_are = r.words_are;
        rows_are = r.rows_are;
        out_is = r.out_is;
      }

  module _ {h : Held} {s : State} {b : Fed} {after : List ℤ} (e : h ≡ state_held_by (take state_words words)) (f : h ≡ Some s)
      (g : FeedGives (feed_of s rows ts ss ms) b after) where
    by_fed_lem : by_fed words rows out s b (feed_of s rows ts ss ms).rows ≡ call_of words rows out ts ss ms
    by_fed_lem = ap (λ (z : Fed). by_fed words rows out s z (feed_of s rows ts ss ms).rows) g.answer_is ∙ by_held_lem (sym f ∙ e)

    pub call_refused : {k place : ℕ} {t : State} → b ≡ not_fed k place t → CallGives (call_of words rows out ts ss ms) k words after out
    call_refused {k} {place} {t} q =
        let stays = refused_stays s t rows ts ss ms k place (sym g.answer_is ∙ q) in
        let told = ap (λ (z : Fed). by_fed words rows out s z (feed_of s rows ts ss ms).rows) (sym q) ∙ by_fed_lem in
        let r = is (refused words rows out k place) told in
        record { number_is = r.number_is; words_are = r.words_are; rows_are = g.rows_are ∙ stays.1 ∙ r.rows_are; out_is = r.out_is }

    pub call_accepted : {t : State} {words' out' : List ℕ} → b ≡ Ok t → summary_width ≤ length out → words' ≡ sets words 0 (words_of t)
        → out' ≡ sets out 0 (summary_of t) → CallGives (call_of words rows out ts ss ms) 0 words' after out'
    call_accepted {t} q room w o =
        let now = accepted words rows out t (feed_of s rows ts ss ms).rows in
        let enough : by_fed words rows out s (Ok t) (feed_of s rows ts ss ms).rows ≡ now =
        rw (le-leb summary_width (length out) room) in
        let told = sym enough ∙ ap (λ (z : Fed). by_fed words rows out s z (feed_of s rows ts ss ms).rows) (sym q) ∙ by_fed_lem in
        let r = is now told in
        record {
          number_is = r.number_is;
          words_are = w ∙ r.words_are;
          rows_are = g.rows_are ∙ r.rows_are;
          out_is = o ∙ r.out_is;
        }
