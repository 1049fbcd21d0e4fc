use Rattle.std.proofs.Common.{◌+◌, ◌<◌, length, drop, map, vec_capacity, arith}
use Rattle.replay.specs.Faults.{refused_event}
use Rattle.printout.proofs.Bytes.{refusal_bytes}
use Rattle.printout.proofs.Adding.{first_refusal, one_readable}
use Rattle.printout.proofs.Added.{more_after, stopped}
use Rattle.printout.proofs.append.add_refusals.Goals as goal

pub loop-fault-preserved : goal.loop-fault-preserved
loop-fault-preserved c =
    let faults = c.args.faults.now in
    let i = c.loop-fault.fault-index in
    let inv = c.loop-fault.invariant.adds in
    let within : i < length faults = omega (arith, c.loop-fault-test.true) in
    record {
      adds = more_after c.args.out.now.items c.loop-fault.out.items c.add_refusal.new.out.items inv.0 _ (refusal_bytes (map refused_event (drop i faults))) (refusal_bytes (map refused_event (drop (i + 1) faults))) (refusal_bytes (map refused_event faults))
          (vec_capacity c.args.out.now) (vec_capacity c.loop-fault.out) (vec_capacity c.add_refusal.new.out) tt tt _ inv.1 c.in_ok-add_refusal.ensures.adds inv.2 (first_refusal faults i _ within);
      readable = one_readable faults i _ within c.loop-fault.invariant.readable c.in_ok-add_refusal.ensures.readable;
    }

pub returns-in_err-add_refusal-clause-adds : goal.returns-in_err-add_refusal-clause-adds
returns-in_err-add_refusal-clause-adds c =
    let faults = c.args.faults.now in
    let i = c.loop-fault.fault-index in
    let inv = c.loop-fault.invariant.adds in
    let within : i < length faults = omega (arith, c.loop-fault-test.true) in
    stopped c.args.out.now.items c.loop-fault.out.items c.add_refusal.new.out.items inv.0 _ (refusal_bytes (map refused_event (drop i faults))) (refusal_bytes (map refused_event (drop (i + 1) faults))) (refusal_bytes (map refused_event faults))
    (vec_capacity c.args.out.now) (vec_capacity c.loop-fault.out) (vec_capacity c.add_refusal.new.out) tt _ c.from_residual.result c.from_residual.ensures.0 inv.1 c.in_err-add_refusal.ensures.adds inv.2 (first_refusal faults i _ within)
