mod Works
mod Joints
mod Reaches
mod Graphs
mod Searched
