-- Two last lines that are alike print the same numbers and answers, and no line is of two kinds. By reading both from the left: behind
-- the same words a number ends at the same stop (`told`), and each answer and each line begins with a letter of its own.
use Rattle.std.specs.Prelude.{◌≡◌, ◌++◌, ◌<◌, ◌^◌}
use Rattle.laws.specs.Kit.{refl, sym, ◌∙◌, List, append_assoc, ℕ, arith}
use Rattle.bucket.specs.declared.Network.{Network}
use Rattle.bucket.specs.declared.Network.TheVariants.{Pass as Passes, Burst}
use Rattle.frame.specs.declared.Row.{Row}
use Rattle.frame.specs.declared.Buffer.{Buffer}
use Rattle.frame.specs.declared.Buffer.TheVariants.{None, Pass, Under, Over, Broken}
use Rattle.text.specs.Decimal.{codes, digits}
use Rattle.text.specs.Lines.{row_line, pair_words, network_words, buffer_words, summary_line, refusal_line}
use Rattle.text.proofs.Apart.{Stops, head_same, after, number_same}

-- a word and two numbers, before what begins with a stop
pair_right : (w : List ℕ) (f l : ℕ) (r : List ℕ) → pair_words w f l ++ r ≡ w ++ (digits f ++ (codes " " ++ (digits l ++ r)))
pair_right w f l r = go w (digits f) (codes " ") (digits l) r
  where
    go : (a b c d e : List ℕ) → a ++ b ++ c ++ d ++ e ≡ a ++ (b ++ (c ++ (d ++ e)))
    go a b c d e = simp append_assoc

-- the same word before both, and a number
told : (w : List ℕ) (f g : ℕ) (r s : List ℕ) → f < 10 ^ 20 → g < 10 ^ 20 → Stops r → Stops s → w ++ (digits f ++ r) ≡ w ++ (digits g ++ s)
    → (f ≡ g) × (r ≡ s)
told w f g r s h k u v e = number_same f g r s h k u v (after w (digits f ++ r) (digits g ++ s) e)

pair_same : (w : List ℕ) (f l g m : ℕ) (r s : List ℕ) → (f < 10 ^ 20) × (l < 10 ^ 20) → (g < 10 ^ 20) × (m < 10 ^ 20) → Stops r → Stops s
    → pair_words w f l ++ r ≡ pair_words w g m ++ s → (f ≡ g) × (l ≡ m) × (r ≡ s)
pair_same w f l g m r s h k u v e =
    let first = told w f g (codes " " ++ (digits l ++ r)) (codes " " ++ (digits m ++ s)) h.0 k.0 (omega arith) (omega arith)
    (sym (pair_right w f l r) ∙ e ∙ pair_right w g m s) in
    let second = told (codes " ") l m r s h.1 k.1 u v first.1 in
    (first.0, second.0, second.1)

pub refusals_differ : (n o m p : ℕ) → (n < 10 ^ 20) × (o < 10 ^ 20) → (m < 10 ^ 20) × (p < 10 ^ 20) → refusal_line n o ≡ refusal_line m p
    → (n ≡ m) × (o ≡ p)
unfolding refusal_line
refusals_differ n o m p h k e =
    let both = pair_same (codes "refused ") n o m p (codes "\n") (codes "\n") h k (omega arith) (omega arith) e in
    (both.0, both.1)

abbrev pub NetworkSized : Network → Type 0
NetworkSized Passes = Unit
NetworkSized (Burst run) = (run.first < 10 ^ 20) × (run.last < 10 ^ 20)

abbrev pub BufferSized : Buffer → Type 0
BufferSized None = Unit
BufferSized Pass = Unit
BufferSized (Under p) = (p.frame < 10 ^ 20) × (p.place < 10 ^ 20)
BufferSized (Over p) = (p.frame < 10 ^ 20) × (p.place < 10 ^ 20)
BufferSized (Broken b) = (b.frame < 10 ^ 20) × (b.kind < 10 ^ 20)

-- each answer begins with a letter of its own
module _ (r s : List ℕ) (u : Stops r) (v : Stops s) where
  network_same : (x y : Network) → NetworkSized x → NetworkSized y → network_words x ++ r ≡ network_words y ++ s → (x ≡ y) × (r ≡ s)
  network_same Passes Passes h k e = (refl, after (codes "pass") r s e)
  network_same Passes (Burst y) h k e = absurd (omega (arith, head_same e))
  network_same (Burst x) Passes h k e = absurd (omega (arith, head_same e))
  network_same (Burst x) (Burst y) h k e =
      let b = pair_same (codes "burst ") x.first x.last y.first y.last r s h k u v e in
      (λ j. Burst (record { first = b.0 j; last = b.1 j }), b.2)

  buffer_same : (x y : Buffer) → BufferSized x → BufferSized y → buffer_words x ++ r ≡ buffer_words y ++ s → (x ≡ y) × (r ≡ s)
  buffer_same None None h k e = (refl, after (codes "none") r s e)
  buffer_same None Pass h k e = absurd (omega (arith, head_same e))
  buffer_same None (Under y) h k e = absurd (omega (arith, head_same e))
  buffer_same None (Over y) h k e = absurd (omega (arith, head_same e))
  buffer_same None (Broken y) h k e = absurd (omega (arith, head_same e))
  buffer_same Pass None h k e = absurd (omega (arith, head_same e))
  buffer_same Pass Pass h k e = (refl, after (codes "pass") r s e)
  buffer_same Pass (Under y) h k e = absurd (omega (arith, head_same e))
  buffer_same Pass (Over y) h k e = absurd (omega (arith, head_same e))
  buffer_same Pass (Broken y) h k e = absurd (omega (arith, head_same e))
  buffer_same (Under x) None h k e = absurd (omega (arith, head_same e))
  buffer_same (Under x) Pass h k e = absurd (omega (arith, head_same e))
  buffer_same (Under x) (Under y) h k e =
      let b = pair_same (codes "under ") x.frame x.place y.frame y.place r s h k u v e in
      (λ j. Under (record { frame = b.0 j; place = b.1 j }), b.2)
  buffer_same (Under x) (Over y) h k e = absurd (omega (arith, head_same e))
  buffer_same (Under x) (Broken y) h k e = absurd (omega (arith, head_same e))
  buffer_same (Over x) None h k e = absurd (omega (arith, head_same e))
  buffer_same (Over x) Pass h k e = absurd (omega (arith, head_same e))
  buffer_same (Over x) (Under y) h k e = absurd (omega (arith, head_same e))
  buffer_same (Over x) (Over y) h k e =
      let b = pair_same (codes "over ") x.frame x.place y.frame y.place r s h k u v e in
      (λ j. Over (record { frame = b.0 j; place = b.1 j }), b.2)
  buffer_same (Over x) (Broken y) h k e = absurd (omega (arith, head_same e))
  buffer_same (Broken x) None h k e = absurd (omega (arith, head_same e))
  buffer_same (Broken x) Pass h k e = absurd (omega (arith, head_same e))
  buffer_same (Broken x) (Under y) h k e = absurd (omega (arith, head_same e))
  buffer_same (Broken x) (Over y) h k e = absurd (omega (arith, head_same e))
  buffer_same (Broken x) (Broken y) h k e =
      let b = pair_same (codes "broken ") x.frame x.kind y.frame y.kind r s h k u v e in
      (λ j. Broken (record { frame = b.0 j; kind = b.1 j }), b.2)

-- what a summary prints
pub record Summed : Type 0 where
  pub packets : ℕ
  pub closed : ℕ
  pub peak : ℕ
  pub network : Network
  pub buffer : Buffer

pub record SummedSized (x : Summed) : Type 0 where
  pub packets : x.packets < 10 ^ 20
  pub closed : x.closed < 10 ^ 20
  pub peak : x.peak < 10 ^ 20
  pub network : NetworkSized x.network
  pub buffer : BufferSized x.buffer

-- what stands behind each of its numbers and answers
module _ (x : Summed) where
  abbrev behind_network : List ℕ
  behind_network = codes " buffer " ++ (buffer_words x.buffer ++ codes "\n")

  abbrev behind_peak : List ℕ
  behind_peak = codes " network " ++ (network_words x.network ++ behind_network)

  abbrev behind_closed : List ℕ
  behind_closed = codes " peak " ++ (digits x.peak ++ behind_peak)

  abbrev behind_packets : List ℕ
  behind_packets = codes " frames " ++ (digits x.closed ++ behind_closed)

  summary_right : summary_line x.packets x.closed x.peak x.network x.buffer
      ≡ codes "packets " ++ (digits x.packets ++ behind_packets)
  unfolding summary_line
  summary_right = go (codes "packets ") (digits x.packets) (codes " frames ") (digits x.closed) (codes " peak ") (digits x.peak)
      (codes " network ") (network_words x.network) (codes " buffer ") (buffer_words x.buffer) (codes "\n")
    where
      go : (a b c d e f g h i j k : List ℕ) → a ++ b ++ c ++ d ++ e ++ f ++ g ++ h ++ i ++ j ++ k
          ≡ a ++ (b ++ (c ++ (d ++ (e ++ (f ++ (g ++ (h ++ (i ++ (j ++ k)))))))))
      go a b c d e f g h i j k = simp append_assoc

pub summaries_differ : (x y : Summed) → SummedSized x → SummedSized y
    → summary_line x.packets x.closed x.peak x.network x.buffer
    ≡ summary_line y.packets y.closed y.peak y.network y.buffer → x ≡ y
summaries_differ x y h k e =
    let whole = sym (summary_right x) ∙ e ∙ summary_right y in
    let packets =
    told (codes "packets ") x.packets y.packets (behind_packets x) (behind_packets y) h.packets k.packets (omega arith)
    (omega arith) whole in
    let closed =
    told (codes " frames ") x.closed y.closed (behind_closed x) (behind_closed y) h.closed k.closed (omega arith) (omega arith)
    packets.1 in
    let peak =
    told (codes " peak ") x.peak y.peak (behind_peak x) (behind_peak y) h.peak k.peak (omega arith) (omega arith) closed.1 in
    let network =
    network_same (behind_network x) (behind_network y) (omega arith) (omega arith) x.network y.network h.network k.network
    (after (codes " network ") _ _ peak.1) in
    let buffer =
    buffer_same (codes "\n") (codes "\n") (omega arith) (omega arith) x.buffer y.buffer h.buffer k.buffer
    (after (codes " buffer ") _ _ network.1) in
    λ j. record { packets = packets.0 j; closed = closed.0 j; peak = peak.0 j; network = network.0 j; buffer = buffer.0 j }

-- and no line is of two kinds: each begins with a letter of its own
pub no_row_sums : (r : Row) (packets closed peak : ℕ) (network : Network) (buffer : Buffer)
    → ¬ (row_line r ≡ summary_line packets closed peak network buffer)
unfolding row_line summary_line
no_row_sums r packets closed peak network buffer e = omega (arith, head_same e)

pub no_row_refuses : (r : Row) (number offset : ℕ) → ¬ (row_line r ≡ refusal_line number offset)
unfolding row_line refusal_line
no_row_refuses r number offset e = omega (arith, head_same e)

pub no_refusal_sums : (number offset packets closed peak : ℕ) (network : Network) (buffer : Buffer)
    → ¬ (refusal_line number offset ≡ summary_line packets closed peak network buffer)
unfolding refusal_line summary_line
no_refusal_sums number offset packets closed peak network buffer e = omega (arith, head_same e)
