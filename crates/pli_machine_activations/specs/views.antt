pub mod ActivationView
pub mod DisplayView
pub mod HandlerView
pub mod Image
pub mod ImageView
pub mod MachineView
pub mod TableView
