mod SameEnds
mod ServedRounds
