use Rattle.babel_dump.proofs.AskedRuns.{did_as, failed_as, not_told}
use Rattle.babel_dump.specs.declared.asked.Asked.TheVariants as askeds
use Rattle.babel_dump.proofs.asked_run.run_asked.Goals as goal

pub returns-in-Job-clause-done : goal.returns-in-Job-clause-done
returns-in-Job-clause-done g c = did_as c.args.asked.now (askeds.Job c.in-Job.job) _ _ _ _ _ _ _ c.in-Job.is c.do_job.ensures.done

pub returns-in-Lone-clause-done : goal.returns-in-Lone-clause-done
returns-in-Lone-clause-done g c = did_as c.args.asked.now (askeds.Lone c.in-Lone.lone) _ _ _ _ _ _ _ c.in-Lone.is c.do_job-in-Lone.ensures.done

pub returns-in-EachSender-clause-done : goal.returns-in-EachSender-clause-done
returns-in-EachSender-clause-done g c = did_as c.args.asked.now (askeds.EachSender c.in-EachSender.each) _ _ _ _ _ _ _ c.in-EachSender.is c.tell_senders.ensures

pub returns-in-EachPair-clause-done : goal.returns-in-EachPair-clause-done
returns-in-EachPair-clause-done g c = did_as c.args.asked.now (askeds.EachPair c.in-EachPair.pairs) _ _ _ _ _ _ _ c.in-EachPair.is c.tell_pairs.ensures

pub returns-in-Events-clause-done : goal.returns-in-Events-clause-done
returns-in-Events-clause-done g c = did_as c.args.asked.now (askeds.Events c.in-Events.events) _ _ _ _ _ _ _ c.in-Events.is c.tell_events.ensures.told

pub returns-in-Origins-clause-done : goal.returns-in-Origins-clause-done
returns-in-Origins-clause-done g c = did_as c.args.asked.now (askeds.Origins c.in-Origins.origins) _ _ _ _ _ _ _ c.in-Origins.is c.tell_origins.ensures.done

pub returns-in-Job-clause-failed : goal.returns-in-Job-clause-failed
returns-in-Job-clause-failed g c = failed_as c.args.asked.now (askeds.Job c.in-Job.job) _ _ _ c.in-Job.is (not_told _)

pub returns-in-EachSender-clause-failed : goal.returns-in-EachSender-clause-failed
returns-in-EachSender-clause-failed g c = failed_as c.args.asked.now (askeds.EachSender c.in-EachSender.each) _ _ _ c.in-EachSender.is (not_told _)

pub returns-in-Events-clause-failed : goal.returns-in-Events-clause-failed
returns-in-Events-clause-failed g c = failed_as c.args.asked.now (askeds.Events c.in-Events.events) _ _ _ c.in-Events.is c.tell_events.ensures.failed

pub returns-in-Select-clause-done : goal.returns-in-Select-clause-done
returns-in-Select-clause-done g c = did_as c.args.asked.now (askeds.Select c.in-Select.select) _ _ _ _ _ _ _ c.in-Select.is c.tell_selection.ensures.done
