mod ProgressLemmas
mod RangeLemmas
mod FitsLemmas
mod PathLemmas
mod ChoiceLemmas
