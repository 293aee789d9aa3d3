use Rattle.series_id.proofs.shared.SharedId.is_same.Goals as goal

pub returns-in-Some-Some-clause-value : goal.returns-in-Some-Some-clause-value
returns-in-Some-Some-clause-value c =
    let mine = c.in-Some-Some.ensures in
    let its = c.in-Some-Some.ensures' in
    (c.are_one.ensures c.args.self.now c.args.other.now mine.1 its.1 mine.0 its.0).0

pub returns-in-Some-Some-clause-exact : goal.returns-in-Some-Some-clause-exact
returns-in-Some-Some-clause-exact c =
    let mine = c.in-Some-Some.ensures in
    let its = c.in-Some-Some.ensures' in
    (c.are_one.ensures c.args.self.now c.args.other.now mine.1 its.1 mine.0 its.0).1
