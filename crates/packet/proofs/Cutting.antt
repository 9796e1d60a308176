-- A scan of l ++ m is a scan of l, then of m from where l ended; and frames that closed before only add. By the list: both facts go from
-- the scan behind a packet to the scan from it on by one law (`scan_under`).
use Rattle.std.specs.Prelude.{◌≡◌, ◌||◌, ◌∷◌, ◌++◌, ◌+◌, Err}
use Rattle.laws.specs.Kit.{refl, sym, ap, ◌∙◌, Bool, List, [], ℕ, add_assoc, ℕ_discrete}
use Rattle.laws.specs.Fold.{fold}
use Rattle.packet.specs.declared.Past.{Past}
use Rattle.refusal.specs.Told.{Numbered}
use Rattle.packet.specs.Paper.{Scanned}
use Rattle.packet.specs.declared.Packet.{Packet}
use Rattle.packet.specs.Paper.{marked}
use Rattle.packet.specs.Step.{number_of, next_of, closes, scan_of}
use Rattle.packet.specs.Calls.{past_after_packets, begun_after, and_then, more}
use Rattle.packet.proofs.Turn.{scan_goes, scan_stops}

-- what takes the answer after a packet to another's takes the answer from the packet on, if it leaves a refusal as it is
scan_under : (f : Scanned → Scanned) → ((r : Numbered) → Err r ≡ f (Err r))
    → (past : Past) (begun : Bool) (a b : ℕ) (p : Packet) (l m : List Packet)
    → scan_of (next_of past p.time) (begun || marked p) (a + closes begun p) l
    ≡ f (scan_of (next_of past p.time) (begun || marked p) (b + closes begun p) m)
    → scan_of past begun a (p ∷ l) ≡ f (scan_of past begun b (p ∷ m))
scan_under f stays past begun a b p l m e = go (ℕ_discrete (number_of past p) 0)
  where
    go : Dec (number_of past p ≡ 0) → scan_of past begun a (p ∷ l) ≡ f (scan_of past begun b (p ∷ m))
    go (yes z) = scan_goes past begun a refl z ∙ e ∙ ap f (sym (scan_goes past begun b refl z))
    go (no n) = scan_stops past begun a refl n ∙ stays _ ∙ ap f (sym (scan_stops past begun b refl n))

-- scanning l ++ m is scanning l, and then m from where l ended
pub scan_cut : (past : Past) (begun : Bool) (closed : ℕ) (l m : List Packet)
    → scan_of past begun closed (l ++ m) ≡ and_then (scan_of past begun closed l) (λ n. scan_of (past_after_packets past l) (begun_after begun l) n m)
unfolding scan_of fold
scan_cut past begun closed [] m = refl
scan_cut past begun closed (p ∷ l) m =
    let rest : ℕ → Scanned = λ n. scan_of (past_after_packets past (p ∷ l)) (begun_after begun (p ∷ l)) n m in
    scan_under (λ s. and_then s rest) (λ r. refl) past begun closed closed p (l ++ m) l
    (scan_cut (next_of past p.time) (begun || marked p) (closed + closes begun p) l m)

-- frames that closed before only add
pub scan_more : (past : Past) (begun : Bool) (a b : ℕ) (l : List Packet) → scan_of past begun (a + b) l ≡ more a (scan_of past begun b l)
unfolding scan_of
scan_more past begun a b [] = refl
scan_more past begun a b (p ∷ l) =
    scan_under (more a) (λ r. refl) past begun (a + b) b p l l
    (rw (← add_assoc a b (closes begun p)) at (scan_more (next_of past p.time) (begun || marked p) a (b + closes begun p) l))
