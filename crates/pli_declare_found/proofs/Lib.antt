pub mod PutBackLemmas
