pub mod ItemLemmas
mod Walked
