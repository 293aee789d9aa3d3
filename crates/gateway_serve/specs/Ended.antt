-- What a run of the gateway prints.
use Rattle.std.specs.Prelude.{◌≡◌, ◌++◌, ℕ, List, codes, decimal}
use Rattle.delta_book.specs.Journal.{Journal, history}
use Rattle.delta_book.specs.Totals.{totals_rows}
use Rattle.out_texts.specs.Report.{report_text}
use Rattle.gateway_serve.specs.declared.sums.Sums.{Sums}
use Rattle.gateway_serve.specs.Rounds.{ServedRound, IsRun}

-- how many points were admitted
unfoldable pub admitted_text : ℕ → List ℕ
admitted_text points = codes "admitted " ++ decimal points

-- how many the back end has taken
unfoldable pub acknowledged_text : ℕ → List ℕ
acknowledged_text points = codes " acknowledged " ++ decimal points

-- what all audits have found
unfoldable pub last_line : Sums → List ℕ
last_line s = admitted_text s.admitted ++ acknowledged_text s.acknowledged ++ codes "\n"

-- the text of these: the report of a journal, and the line of the sums
abbrev pub ending_text : Journal → Sums → List ℕ
ending_text j sums = report_text (totals_rows (history j)) ++ last_line sums

-- what is printed behind these rounds of so many connections: the report of the latest, and the
-- sums of all
abbrev pub IsEnding : ℕ → ℕ → ServedRound → List ServedRound → List ℕ → Type 0
IsEnding connections most latest earlier text =
    (j : Journal) × (sums : Sums) × IsRun connections most connections latest earlier j sums
    × (text ≡ ending_text j sums)
