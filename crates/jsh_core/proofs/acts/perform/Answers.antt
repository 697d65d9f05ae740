-- An act is done by its call.
use Rattle.std.proofs.Common.{refl}
use Rattle.jsh_snippet.specs.declared.acts.Act.TheVariants as act
use Rattle.jsh_snippet.specs.declared.replies.ReplyBody.TheVariants as body
use Rattle.jsh_core.proofs.ActLemmas.{cut-turn, done-now, done-turn, done-whole}
use Rattle.jsh_core.proofs.WithinLemmas.{IsWithin-weaker}
use Rattle.jsh_core.proofs.acts.perform.Goals as goal

pub returns-in-Enter-clause-done : goal.returns-in-Enter-clause-done
returns-in-Enter-clause-done c =
    done-whole c.args.parts.now c.number_client.new.parts c.args.client c.args.act.now act.Enter c.number_client.result c.at_once.result
    c.in-Enter.is c.at_once.ensures c.number_client.ensures.ok c.number_client.ensures.sound (λ entries h. IsWithin-weaker entries _ (c.number_client.ensures.within entries h))

pub returns-in-Submit-clause-done : goal.returns-in-Submit-clause-done
returns-in-Submit-clause-done c =
    done-whole c.args.parts.now c.submit.new.parts c.args.client c.args.act.now (act.Submit c.in-Submit.source) c.submit.result c.at_once-in-Submit.result
    c.in-Submit.is c.at_once-in-Submit.ensures c.submit.ensures.ok c.submit.ensures.sound c.submit.ensures.within

pub returns-in-Turn-clause-done : goal.returns-in-Turn-clause-done
returns-in-Turn-clause-done c =
    done-turn c.args.parts.now c.turn_thread.new.parts c.args.client c.in-Turn.thread c.in-Turn.steps c.args.act.now c.turn_thread.result
    c.in-Turn.is c.turn_thread.ensures.ok c.turn_thread.ensures.sound c.turn_thread.ensures.within

pub returns-in-Turn-clause-cut : goal.returns-in-Turn-clause-cut
returns-in-Turn-clause-cut c =
    cut-turn c.args.parts.now c.turn_thread.new.parts c.args.client c.in-Turn.thread c.in-Turn.steps c.args.act.now c.turn_thread.result
    c.in-Turn.is c.turn_thread.ensures.err c.turn_thread.ensures.short c.turn_thread.ensures.sound c.turn_thread.ensures.within

pub returns-in-Collect-clause-done : goal.returns-in-Collect-clause-done
returns-in-Collect-clause-done c =
    done-whole c.args.parts.now c.collect_run.new.parts c.args.client c.args.act.now (act.Collect c.in-Collect.run') c.collect_run.result c.at_once-in-Collect.result
    c.in-Collect.is c.at_once-in-Collect.ensures c.collect_run.ensures.ok c.collect_run.ensures.sound (λ entries h. IsWithin-weaker entries _ (c.collect_run.ensures.within entries h))

pub returns-in-Expire-clause-done : goal.returns-in-Expire-clause-done
returns-in-Expire-clause-done c =
    done-whole c.args.parts.now c.expire_run.new.parts c.args.client c.args.act.now (act.Expire c.in-Expire.run' c.in-Expire.steps) c.expire_run.result c.at_once-in-Expire.result
    c.in-Expire.is c.at_once-in-Expire.ensures c.expire_run.ensures.ok c.expire_run.ensures.sound (λ entries h. IsWithin-weaker entries _ (c.expire_run.ensures.within entries h))

pub returns-in-Stop-clause-done : goal.returns-in-Stop-clause-done
returns-in-Stop-clause-done c =
    done-now c.args.parts.now c.stop_run.new.parts c.args.client c.args.act.now (act.Stop c.in-Stop.run') c.stop_run.result
    c.in-Stop.is c.stop_run.ensures.ok c.stop_run.ensures.sound (λ entries h. IsWithin-weaker entries _ (c.stop_run.ensures.within entries h))

pub returns-in-Drop-clause-done : goal.returns-in-Drop-clause-done
returns-in-Drop-clause-done c =
    done-whole c.args.parts.now c.drop_snippet.new.parts c.args.client c.args.act.now (act.Drop c.in-Drop.target) c.drop_snippet.result c.at_once-in-Drop.result
    c.in-Drop.is c.at_once-in-Drop.ensures c.drop_snippet.ensures.ok c.drop_snippet.ensures.sound c.drop_snippet.ensures.within

pub returns-in-Ask-clause-done : goal.returns-in-Ask-clause-done
returns-in-Ask-clause-done c =
    done-whole c.args.parts.now c.args.parts.now c.args.client c.args.act.now (act.Ask c.in-Ask.question) c.answer_question.result c.at_once-in-Ask.result
    c.in-Ask.is c.at_once-in-Ask.ensures c.answer_question.ensures c.requires.sound (λ entries h. IsWithin-weaker entries _ h)

pub returns-in-Reset-clause-done : goal.returns-in-Reset-clause-done
returns-in-Reset-clause-done c =
    done-now c.args.parts.now c.reset_all.new.parts c.args.client c.args.act.now act.Reset c.reset_all.result
    c.in-Reset.is c.reset_all.ensures.ok c.reset_all.ensures.sound c.reset_all.ensures.within

pub returns-in-Leave-clause-done : goal.returns-in-Leave-clause-done
returns-in-Leave-clause-done c =
    done-now c.args.parts.now c.dismiss_client.new.parts c.args.client c.args.act.now act.Leave c.dismiss_client.result
    c.in-Leave.is c.dismiss_client.ensures.ok c.dismiss_client.ensures.sound c.dismiss_client.ensures.within

pub returns-in-Close-clause-done : goal.returns-in-Close-clause-done
returns-in-Close-clause-done c =
    done-now c.args.parts.now c.args.parts.now c.args.client c.args.act.now act.Close body.Closed c.in-Close.is refl c.requires.sound (λ entries h. h)
