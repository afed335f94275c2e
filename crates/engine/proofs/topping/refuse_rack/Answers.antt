use Rattle.engine.proofs.topping.refuse_rack.Goals as goal

pub returns : goal.returns
returns g c =
    let refused = c.decide_bad_rack-refused in
    record { decided = refused.result; reported = refused.ensures.reported; memory = refused.ensures.memory; sent = c.finish.ensures }
