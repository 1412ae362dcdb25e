use Rattle.std.proofs.Common.{rules, ◌+◌, ap, ◌∙◌, Err}
use Rattle.devices.specs.Counting.{up}
use Rattle.std.specs.IoError.{raw_os_error}
use Rattle.serve_device.specs.declared.answer.Answer.TheVariants.{Failure}
use Rattle.serve_device.specs.Reads.{settled_after}
use Rattle.serve_device.proofs.Retries.{held-step, never-again, tried-fresh}
use Rattle.serve_device.proofs.source.read_again.Goals as goal

pub returns-in-Ok-clause-last : goal.returns-in-Ok-clause-last
returns-in-Ok-clause-last g c = record {
  tries = c.loop.counter + 1;
  some = search rules;
  most = search rules;
  counted = c.read.ensures.read.counted ∙ ap up c.loop.invariant.2 ∙ held-step _ _;
  answer = _;
  settled = search rules;
  spent = search rules;
  last = c.read.ensures.read.last;
  outcome_is = search rules;
}

pub returns-in_default : goal.returns-in_default
returns-in_default g c =
    let answer = Failure (raw_os_error c.in-Err.error) in
    record {
      bound = search rules;
      bytes = search rules;
      last = record {
        tries = c.loop.counter + 1;
        some = search rules;
        most = search rules;
        counted = c.read.ensures.read.counted ∙ ap up c.loop.invariant.2 ∙ held-step _ _;
        answer = answer;
        settled = c.in-Err.ensures.read.settled ∙ ap (λ n. settled_after n answer) c.loop.invariant.3;
        spent = λ is. absurd (never-again _ (λ e. c.in_default.not-Again (c.trouble_of_read.ensures ∙ e)) is);
        last = c.in-Err.ensures.read.last;
        outcome_is = ap Err (c.trouble_of_read.ensures
            ∙ tried-fresh _ (λ e. c.in_default.not-Again (c.trouble_of_read.ensures ∙ e)));
      };
    }
