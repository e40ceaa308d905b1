mod CommitLaws
mod StreamLaws
mod OpenLaws
mod SumLaws
