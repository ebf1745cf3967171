-- THE THEOREM: every promise of `specs/Promises.antt` is kept.
-- Assumes nothing.
use Rattle.grid.proofs.Bytes.{state_valid, bytes_back}
use Rattle.grid.proofs.Conditions.{conditions_record, record_facts}
use Rattle.editor.proofs.Lists.{new_facts, valid_kept, pair_kept}
use Rattle.editor.proofs.CheckedPrints.{checked_prints}
use Rattle.editor.proofs.WaitingPrints.{waiting_prints}
use Rattle.editor.proofs.LimitedTyping.{limited_typing}
use Rattle.editor.proofs.Refusals.{changing_answers, creating_answers, asking_answers, texting_answers}
use Rattle.report.proofs.Conditions.{facts_report}
use Rattle.report.proofs.RoundTrips.{report_bytes_back}
use Rattle.report.proofs.Refusals.{reporting_answers}
use Rattle.mirror.proofs.Conditions.{facts_mirror}
use Rattle.mirror.proofs.RoundTrips.{mirror_bytes_back}
use Rattle.mirror.proofs.Refusals.{creating_mirror_answers, arrival_answers}
use Rattle.mirror.proofs.Claims.{demand_3, followed}
use Rattle.keys.proofs.Refusals.{stripping_answers}
use Rattle.promises.specs.Promises.{Promises}
use Rattle.promises.proofs.Checked.{checked}

pub promises : Promises
promises =
    record {
      changing_calls = changing_answers;
      new_screen = creating_answers;
      reading_calls = asking_answers;
      text_calls = texting_answers;
      report_calls = λ kind l out. reporting_answers l out kind;
      new_mirror = creating_mirror_answers;
      arrivals = arrival_answers;
      strip_call = stripping_answers;
      new_valid = λ w sitting h. record_facts _ (state_valid _ (new_facts w sitting h));
      kept_valid = λ c l b v e. valid_kept c l b v;
      sitting_kept = pair_kept;
      record_whole = λ l b v. bytes_back l (conditions_record l v) b;
      report_whole = λ b q v. report_bytes_back b (facts_report b v) q;
      mirror_whole = λ m q v. mirror_bytes_back m (facts_mirror m v) q;
      demand_3 = demand_3;
      restart_followed = followed;
      checked_prints = checked_prints;
      waiting_prints = waiting_prints;
      limited_typing = limited_typing;
      examples_hold = checked;
    }
