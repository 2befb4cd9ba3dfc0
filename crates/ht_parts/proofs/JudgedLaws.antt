-- Files that judges took to their ends for a part are valid in it.
use Rattle.std.proofs.Common.{◌≤◌, ◌-◌, ℕ, List, length, get_or, refl, sym, subst}
use Rattle.ht_ports.specs.LineRule.{lines_of, max_text_bytes}
use Rattle.ht_net.specs.Circuit.Netlist.{Netlist}
use Rattle.ht_texts.specs.declared.said.Said.{Said}
use Rattle.ht_texts.specs.Tests.{IsTestText}
use Rattle.ht_texts.specs.Verdicts.{said_at}
use Rattle.ht_valid.specs.ValidFiles.{Backs, Content, NeedsEntry}
use Rattle.ht_judge.specs.declared.report_judge.Claims.{Claims}
use Rattle.ht_judge.specs.ProofJudging.{AreCompleteProofs}
use Rattle.ht_parts.specs.declared.part.Part.{Part}
use Rattle.ht_parts.specs.JudgedInPart.{claimed_content}
use Rattle.ht_parts.specs.ValidInPart.{AreValidFilesInPart}
use Rattle.ht_parts.specs.PartReportJudging.{AreClaimedInPart}

-- tests, a report that is true for the part, and complete proofs for what is claimed are valid in the part
pub judged_is_valid : (c : Netlist) (representatives : List ℕ) (part : Part) (tests report proofs : List ℕ)
    (content : Content) (claims : Claims) → IsTestText c tests content.list
    → AreClaimedInPart c representatives part content.start content.list (lines_of report) claims
    → length report ≤ max_text_bytes
    → AreCompleteProofs c representatives (claimed_content content claims) (lines_of proofs)
    → length proofs ≤ max_text_bytes
    → AreValidFilesInPart c representatives part content.start tests report proofs
judged_is_valid c representatives part tests report proofs content claims vectors claimed short complete few =
    let whole : Content = record {
      start = content.start;
      list = content.list;
      budget = claims.budget;
      saids = claimed.saids;
      entries = complete.entries;
    } in (
      whole,
      record {
        stated = refl;
        vectors = vectors;
        reported = record { report = claimed.says.report; short = short };
        proved = record { format = complete.format; are = complete.are; lines = complete.lines_are; short = few };
        justified = record {
          agrees = claimed.says.agrees;
          backed = λ k d inside.
              let e = get_or complete.entries k d in
              let here = complete.backed k d inside in record {
                own = here.own;
                counted = here.counted;
                backs = subst (λ (l : List Said). Backs c content.start claims.budget (e.number - 1) e.entry
                    (said_at l (e.number - 1))) claimed.shown here.backs;
              };
          complete = λ i own needs. complete.complete i own
              (subst (λ (l : List Said). NeedsEntry (said_at l i)) (sym claimed.shown) needs);
        };
      },
    )
